use Rattle.std.proofs.Common.{◌≡◌, map, take}
use Rattle.g4_checks.specs.Labels.{capitalised}
use Rattle.g4_checks.proofs.capital.capitalised_names.Given as goal

abbrev pub invariant-loop-rule : goal.invariant-loop-rule
invariant-loop-rule l = l.names.items ≡ map (λ r. capitalised r.now.name) (take l.rule-index l.rules)
