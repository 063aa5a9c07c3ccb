use Rattle.std.proofs.Common.{◌≡◌, ◌++◌, drop}
use Rattle.g4_chars.specs.Building.{all_scalars}
use Rattle.g4_chars.proofs.part.push_all.Given as goal

abbrev pub invariant-loop-first : goal.invariant-loop-first
invariant-loop-first l = l.out.items ++ all_scalars (drop l.first-index l.ranges) ≡ l.initial.out.items ++ all_scalars l.ranges
