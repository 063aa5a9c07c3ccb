use Rattle.std.proofs.Common.{ℕ, List, subst}
use Rattle.g4_net.specs.declared.network.State.{State}
use Rattle.g4_classes.specs.Partitions.{IsPartition}
use Rattle.g4_classes.proofs.Partitioning.{all_states, one_more_state}
use Rattle.g4_classes.proofs.classes.partition_of.Goals as goal

pub loop-state-preserved : goal.loop-state-preserved
loop-state-preserved c =
    one_more_state c.as_slice-state-items.result.now c.loop-state.state-index c.state-item.result c.loop-state.partition.blocks.items
    c.divide_by.new.self.blocks.items
    c.loop-state-test.true c.state-item.is c.loop-state.invariant c.in_ok-divide_by.ensures

pub returns : goal.returns
returns c =
    let p = c.loop-state.partition in
    subst (λ (xs : List (State (List ℕ))). IsPartition xs p.blocks.items) c.as_slice-state-items.ensures
    (all_states c.as_slice-state-items.result.now c.loop-state.state-index p.blocks.items c.loop-state-test.false c.loop-state.invariant)
