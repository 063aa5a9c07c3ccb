use Rattle.std.proofs.Common.{◌≡◌, take}
use Rattle.g4_stacks.specs.Taking.{renumbered}
use Rattle.g4_stacks.proofs.shape.with_numbers.Given as goal

abbrev pub invariant-loop-top : goal.invariant-loop-top
invariant-loop-top l = l.tops.items ≡ renumbered l.numbers (take l.top-index l.top-items)
