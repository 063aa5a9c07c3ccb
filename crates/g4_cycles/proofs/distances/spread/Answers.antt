use Rattle.std.proofs.Common.{◌<◌, ◌+◌, ◌≡◌, [], length, refl, arith}
use Rattle.std.proofs.lemmas.Bool.Decides.{nat_tests}
use Rattle.g4_cycles.specs.Edges.{Backward}
use Rattle.g4_cycles.specs.Marks.{AreMarked, LeadsTo}
use Rattle.g4_cycles.proofs.Spreading.{spread_begins, spread_goes_on, spread_ends}
use Rattle.g4_cycles.proofs.distances.spread.Goals as goal

pub levels-init : goal.levels-init
levels-init c = spread_begins (Backward c.args.reversed.now) c.args.root c.args.distances.now c.requires.open _
    c.in_ok-level.level.items refl c.in_ok-level.ensures.items

pub overflow_add-distance : goal.overflow_add-distance
overflow_add-distance c =
    let some : 0 < length c.levels.level.items = grind (arith, nat_tests, c.levels-test.ensures) in
    omega (arith, c.levels.invariant.room, c.requires.few)

pub levels-smaller : goal.levels-smaller
levels-smaller c =
    let some : 0 < length c.levels.level.items = grind (arith, nat_tests, c.levels-test.ensures) in
    let marked : AreMarked (LeadsTo c.args.reversed.now c.levels.level.items) (c.levels.distance + 1) c.levels.distances []
    c.mark_before.new.distances c.mark_before.new.found.items =
    rw (c.as_slice.ensures.value, c.new-found.ensures.items) at c.in_ok-mark_before.ensures in
    omega (arith, marked.count, some)

pub levels-preserved : goal.levels-preserved
levels-preserved c =
    let some : 0 < length c.levels.level.items = grind (arith, nat_tests, c.levels-test.ensures) in
    let marked : AreMarked (LeadsTo c.args.reversed.now c.levels.level.items) (c.levels.distance + 1) c.levels.distances []
    c.mark_before.new.distances c.mark_before.new.found.items =
    rw (c.as_slice.ensures.value, c.new-found.ensures.items) at c.in_ok-mark_before.ensures in
    spread_goes_on (Backward c.args.reversed.now) c.args.root c.args.distances.now c.levels.distances c.mark_before.new.distances
    c.levels.distance c.levels.level.items c.mark_before.new.found.items (LeadsTo c.args.reversed.now c.levels.level.items)
    (λ k to. to) (λ k i has e. (i, has, e)) c.requires.within some c.levels.invariant marked

pub returns : goal.returns
returns c =
    let none : length c.levels.level.items ≡ 0 = grind (arith, nat_tests, c.levels-test.ensures) in
    spread_ends (Backward c.args.reversed.now) c.args.root c.args.distances.now c.levels.distances c.levels.distance
    c.levels.level.items none c.levels.invariant
