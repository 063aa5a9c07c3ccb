use Rattle.std.proofs.Common.{map, take}
use Rattle.g4_checks.specs.Known.{Counts}
use Rattle.g4_checks.proofs.labels.repeated_labels.Given as goal

abbrev pub invariant-loop-rule : goal.invariant-loop-rule
invariant-loop-rule l = Counts (map (λ r. r.now) (take l.rule-index l.rules)) l.sets.once l.sets.again
