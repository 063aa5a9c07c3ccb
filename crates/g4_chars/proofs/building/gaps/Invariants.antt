use Rattle.std.proofs.Common.{◌≡◌, ◌≤◌, ◌++◌, drop}
use Rattle.g4_chars.specs.Building.{gaps}
use Rattle.g4_chars.proofs.building.gaps.Given as goal

abbrev pub invariant-loop-range : goal.invariant-loop-range
invariant-loop-range l =
    (l.out.items ++ gaps l.start (drop l.range-index l.ranges) ≡ gaps 0 l.ranges) × (l.start ≤ 0x110000)
