use Rattle.std.proofs.Common.{◌≡◌, ◌++◌, map, drop}
use Rattle.std.specs.List.{flat_map}
use Rattle.g4_source.specs.Atoms.{rule_atoms}
use Rattle.g4_source.specs.Views.{rule_view}
use Rattle.g4_checks.specs.Views.{use_view}
use Rattle.g4_checks.proofs.atoms.atoms_of.Given as goal

abbrev pub invariant-loop-rule : goal.invariant-loop-rule
invariant-loop-rule l = map use_view l.found.items ++ flat_map (λ x. rule_atoms (rule_view x)) (drop l.rule-index l.rules)
    ≡ flat_map (λ x. rule_atoms (rule_view x)) l.rules
