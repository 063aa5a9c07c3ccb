use Rattle.std.proofs.Common.{arith}
use Rattle.g4_states.proofs.Drafts.{among_item}
use Rattle.g4_states.proofs.numbering.mark.Goals as goal

pub index_mut-requires : goal.index_mut-requires
index_mut-requires c =
    let less = c.requires.within _ (among_item c.args.places.now c.loop-k.k c.loop-k-test.true) in
    omega (arith, less, c.loop-k.invariant.size, c.loop-k.written.ok.0)
