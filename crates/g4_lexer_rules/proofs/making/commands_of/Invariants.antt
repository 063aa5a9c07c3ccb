use Rattle.std.proofs.Common.{◌≡◌, take}
use Rattle.std.specs.List.{filter_map}
use Rattle.g4_lexer_rules.specs.Commands.{command_of}
use Rattle.g4_lexer_rules.proofs.making.commands_of.Given as goal

abbrev pub invariant-loop-command : goal.invariant-loop-command
invariant-loop-command l = l.made.items ≡ filter_map (command_of l.numbers.tables.now) (take l.command-index l.commands)
