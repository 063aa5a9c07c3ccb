use Rattle.std.proofs.Common.{◌≡◌, ◌++◌, map, drop}
use Rattle.std.specs.List.{flat_map}
use Rattle.g4_checks.specs.Commands.{rule_commands}
use Rattle.g4_source.specs.Views.{rule_view}
use Rattle.g4_checks.proofs.commands.commands_of.Given as goal

abbrev pub invariant-loop-rule : goal.invariant-loop-rule
invariant-loop-rule l = map (λ c. c.now) l.found.items ++ flat_map (λ x. rule_commands (rule_view x)) (drop l.rule-index l.rules)
    ≡ flat_map (λ x. rule_commands (rule_view x)) l.rules
