use Rattle.std.proofs.Common.{◌≡◌, ◌++◌, filter}
use Rattle.g4_merge.specs.Merging.{declares}
use Rattle.g4_merge.proofs.parts.push_declared.Given as goal

abbrev pub invariant-loop-prequel : goal.invariant-loop-prequel
invariant-loop-prequel l = l.found.items ≡ l.initial.found.items ++ filter declares l.yielded
