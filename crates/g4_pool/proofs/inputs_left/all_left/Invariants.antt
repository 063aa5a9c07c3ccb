use Rattle.std.proofs.Common.{◌≡◌, Some, map}
use Rattle.g4_pool.proofs.inputs_left.all_left.Given as goal

abbrev pub invariant-loop-input : goal.invariant-loop-input
invariant-loop-input l = l.left.items ≡ map Some l.yielded
