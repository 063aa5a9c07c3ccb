use Rattle.std.proofs.Common.{◌≡◌, map, take}
use Rattle.std.specs.List.{filter_map}
use Rattle.g4_lexer_rules.specs.Commands.{command_of}
use Rattle.g4_lexer_rules.proofs.making.rule_commands_of.Given as goal

abbrev pub invariant-loop-commands : goal.invariant-loop-commands
invariant-loop-commands l = l.made.items ≡ map (filter_map (command_of l.numbers.tables.now)) (take l.commands-index l.alternatives)
