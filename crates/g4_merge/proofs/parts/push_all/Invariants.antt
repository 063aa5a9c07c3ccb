use Rattle.std.proofs.Common.{◌≡◌, ◌++◌}
use Rattle.g4_merge.proofs.parts.push_all.Given as goal

abbrev pub invariant-loop-item : goal.invariant-loop-item
invariant-loop-item g l = l.found.items ≡ l.initial.found.items ++ l.yielded
