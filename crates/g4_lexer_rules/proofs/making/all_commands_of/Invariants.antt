use Rattle.std.proofs.Common.{◌≡◌, map, take}
use Rattle.std.specs.List.{filter_map}
use Rattle.g4_lexer_rules.specs.Commands.{command_of}
use Rattle.g4_lexer_rules.proofs.making.all_commands_of.Given as goal

abbrev pub invariant-loop-alternatives : goal.invariant-loop-alternatives
invariant-loop-alternatives l = l.made.items ≡ map (map (filter_map (command_of l.numbers.tables.now))) (take l.alternatives-index l.rules)
