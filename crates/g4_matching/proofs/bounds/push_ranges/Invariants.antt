use Rattle.std.proofs.Common.{◌≡◌, ◌++◌, take}
use Rattle.g4_matching.specs.Bounds.{bounds_of}
use Rattle.g4_matching.proofs.bounds.push_ranges.Given as goal

abbrev pub invariant-loop-range : goal.invariant-loop-range
invariant-loop-range l = l.bounds.items ≡ l.fn.bounds.items ++ bounds_of (take l.range-index l.ranges)
