use Rattle.std.proofs.Common.{◌≡◌, ◌<◌, length, arith}
use Rattle.g4_classes.proofs.Dividing.{least_within, renumbered}
use Rattle.g4_classes.proofs.Partitioning.{zeros_within}
use Rattle.g4_classes.proofs.partition.Partition.renumber.Goals as goal

pub invariant_of-self : goal.invariant_of-self
invariant_of-self c =
    let least = c.in_ok-blocks.ensures in
    let moved = c.in_ok-moved.ensures in
    let many : length c.args.self.now.blocks.items ≡ 4098 = c.args.self.now.count in
    let long = c.in_ok-moved.moved.ok.0 in
    let some : 0 < length c.in_ok-moved.moved.items = omega (arith, moved.len, long) in
    record {
      count = omega (arith, least.count, many);
      blocks_within = least_within c.args.self.now.blocks.items c.in_ok-blocks.blocks.items (length c.in_ok-moved.moved.items)
          (omega (arith, moved.len, long, many)) least;
      moved_within = zeros_within 4098 (length c.in_ok-moved.moved.items) c.in_ok-moved.moved.items
          (moved.items_if_clones_equal (λ y e. e)) some;
    }

pub returns : goal.returns
returns c = renumbered c.args.self.now.blocks.items c.in_ok-blocks.blocks.items c.in_ok-blocks.ensures
