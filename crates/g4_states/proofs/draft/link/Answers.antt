use Rattle.std.proofs.Common.{arith}
use Rattle.g4_states.proofs.Drafts.{among_item}
use Rattle.g4_states.proofs.draft.link.Goals as goal

pub index_mut-requires : goal.index_mut-requires
index_mut-requires g c =
    let less = c.requires _ (among_item c.args.lasts.now c.loop-last.last-index c.loop-last-test.true) in
    omega (arith, less, c.loop-last.invariant.size, c.loop-last.states.ok.0)
