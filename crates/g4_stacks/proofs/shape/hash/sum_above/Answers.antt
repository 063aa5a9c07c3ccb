use Rattle.std.proofs.Common.{◌<◌, length, map, get_or, take, refl, sym, subst}
use Rattle.std.proofs.lemmas.Option.{slice_get_read}
use Rattle.g4_stacks.specs.Hashing.{IsSumOf}
use Rattle.g4_stacks.specs.Listing.{above}
use Rattle.g4_stacks.specs.Stack.{pushed}
use Rattle.g4_stacks.proofs.Shapes.{leads_at}
use Rattle.g4_stacks.proofs.Sums.{above_more}
use Rattle.g4_stacks.proofs.shape.hash.sum_above.Goals as goal

pub bounds-below-node : goal.bounds-below-node
bounds-below-node c =
    leads_at (length c.args.below.now) c.args.tops.now c.loop-state.state-index c.requires c.loop-state-test.true

pub loop-state-preserved : goal.loop-state-preserved
loop-state-preserved c = λ rests are.
    let tops = c.args.tops.now in
    let below = c.args.below.now in
    let i = c.loop-state.state-index in
    let top = get_or tops i (0, 0) in
    let lt : top.1 < length below = leads_at (length below) tops i c.requires c.loop-state-test.true in
    let rest = are top.1 c.index-below-node.result (slice_get_read below (length below) top.1 c.index-below-node.result refl lt
    c.index-below-node.is) in
    let more = c.plus-sum.ensures (above rests (take i tops)) (map (pushed top.0) (rests top.1)) (c.loop-state.invariant rests are)
    (c.below.ensures (rests top.1) rest) in
    subst (IsSumOf c.plus-sum.result) (sym (above_more rests tops i c.loop-state-test.true)) more
