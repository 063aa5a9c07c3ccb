use Rattle.std.proofs.Common.{◌+◌, ◌<◌, List, length, map, get_or, take, refl, sym, subst}
use Rattle.std.proofs.lemmas.Option.{slice_get_read}
use Rattle.g4_stacks.specs.Hashing.{EachSum}
use Rattle.g4_stacks.specs.declared.sum.Sum.{Sum}
use Rattle.g4_stacks.proofs.Sums.{each_more}
use Rattle.g4_stacks.proofs.shape.hash.sums_at.Goals as goal

pub loop-place-preserved : goal.loop-place-preserved
loop-place-preserved c = λ lists are.
    let sums = c.args.sums.now in
    let places = c.args.places.now in
    let i = c.loop-place.place-index in
    let place = get_or places i 0 in
    let lt : place < length sums = c.requires i 0 c.loop-place-test.true in
    let here = are place c.index-sums-place.result (slice_get_read sums (length sums) place c.index-sums-place.result refl lt
    c.index-sums-place.is) in
    subst (λ (found : List Sum). EachSum found (map lists (take (i + 1) places))) (sym c.in_ok-push.ensures.items)
    (each_more lists places i c.loop-place.found.items c.index-sums-place.result c.loop-place-test.true
    (c.loop-place.invariant lists are) here)
