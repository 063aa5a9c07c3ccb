use Rattle.std.proofs.Common.{◌<◌, length, arith}
use Rattle.g4_classes.proofs.Partitioning.{zeros_within}
use Rattle.g4_classes.proofs.partition.Partition.whole.Goals as goal

pub invariant_of-result : goal.invariant_of-result
invariant_of-result c =
    let blocks = c.in_ok-vec.ensures in
    let moved = c.in_ok-vec-2.ensures in
    let long = c.in_ok-vec.field-0.ok.0 in
    let one = c.in_ok-vec-2.field-0.ok.0 in
    let some : 0 < length c.in_ok-vec-2.field-0.items = omega (arith, moved.len, one) in
    record {
      count = omega (arith, blocks.len, long);
      blocks_within = zeros_within 4098 (length c.in_ok-vec-2.field-0.items) c.in_ok-vec.field-0.items
          (blocks.items_if_clones_equal (λ y e. e)) some;
      moved_within = zeros_within 1 (length c.in_ok-vec-2.field-0.items) c.in_ok-vec-2.field-0.items
          (moved.items_if_clones_equal (λ y e. e)) some;
    }
