use Rattle.std.proofs.Common.{◌≡◌, ◌+◌, ◌++◌, ℕ, List, [], length, ap, refl, ◌∙◌, arith}
use Rattle.g4_matching.specs.Bounds.{bounds_of}
use Rattle.g4_matching.specs.Partitions.{Classing, classing}
use Rattle.g4_matching.proofs.Bounded.{set_partition, tells_empty, tells_set}
use Rattle.g4_matching.proofs.Matched.{empty_by}
use Rattle.g4_matching.proofs.partition.Partition.of_ranges.Goals as goal

pub returns-then-is_empty-clause-tells : goal.returns-then-is_empty-clause-tells
returns-then-is_empty-clause-tells c =
    let ranges = c.args.ranges.now in
    let none : ranges ≡ [] = empty_by c.is_empty.result (length ranges) ranges c.if-is_empty.true c.is_empty.ensures refl in
    tells_empty ranges (classing c.in_ok-partition.partition) c.in_ok-partition.ensures.partition c.in_ok-partition.ensures.whole none

pub returns-clause-partition : goal.returns-clause-partition
returns-clause-partition c =
    let ranges = c.args.ranges.now in
    let own : Classing = record { bounds = c.push_ranges.new.bounds.items; classes = c.in_ok-classes.classes.items; count = 2 } in
    let bounds_are : c.push_ranges.new.bounds.items ≡ bounds_of ranges =
    c.in_ok-push_ranges.ensures ∙ ap (λ (l : List ℕ). l ++ bounds_of ranges) c.new-bounds.ensures.items in
    let many : c.len.result + 1 ≡ length (bounds_of ranges) + 1 =
    omega (arith, c.len.ensures, c.push_ranges.new.bounds.ok.0, ap length bounds_are) in
    set_partition ranges (c.len.result + 1) own c.requires c.in_ok-classes.ensures many bounds_are refl

pub returns-clause-tells : goal.returns-clause-tells
returns-clause-tells c =
    let ranges = c.args.ranges.now in
    let own : Classing = record { bounds = c.push_ranges.new.bounds.items; classes = c.in_ok-classes.classes.items; count = 2 } in
    let bounds_are : c.push_ranges.new.bounds.items ≡ bounds_of ranges =
    c.in_ok-push_ranges.ensures ∙ ap (λ (l : List ℕ). l ++ bounds_of ranges) c.new-bounds.ensures.items in
    let many : c.len.result + 1 ≡ length (bounds_of ranges) + 1 =
    omega (arith, c.len.ensures, c.push_ranges.new.bounds.ok.0, ap length bounds_are) in
    tells_set (c.len.result + 1) c.in_ok-classes.classes.items c.in_ok-classes.ensures ranges own c.requires many bounds_are refl
