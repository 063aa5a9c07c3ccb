use Rattle.std.proofs.Common.{rules, ◌≡◌, ◌++◌, ℕ, List, Option, None, length, take, drop, replicate, sym, subst, arith}
use Rattle.g4_cycles.specs.Edges.{Backward}
use Rattle.g4_cycles.specs.Marks.{AreDistances, IsSpread}
use Rattle.g4_cycles.proofs.EdgesOf.{came_back}
use Rattle.g4_cycles.proofs.Marking.{none_in}
use Rattle.g4_cycles.proofs.Spreading.{spread_alone}
use Rattle.g4_cycles.proofs.distances.distances_to.Goals as goal

pub spread-requires-clause-within : goal.spread-requires-clause-within
spread-requires-clause-within c = λ k i e. let less = c.requires.within k i e in
    omega (arith, less, c.deref_mut.ensures.len, c.in_ok-distances.ensures.len)

pub returns-clause-exact : goal.returns-clause-exact
returns-clause-exact c =
    let edge = Backward c.args.reversed.now in
    let old = c.in_ok-distances.distances.items in
    let new = c.spread.new.distances in
    let none : old ≡ replicate (length c.args.reversed.now) None = c.in_ok-distances.ensures.items_if_clones_equal (λ y is. search rules) in
    let back : take c.in_ok-distances.distances.len (new ++ drop (length new) old) ≡ new =
    came_back c.in_ok-distances.distances.len new old (omega arith) in
    let spread : IsSpread edge c.args.root old new =
    subst (λ (d : List (Option ℕ)). IsSpread edge c.args.root d new) c.deref_mut.ensures.value c.in_ok-spread.ensures in
    subst (AreDistances edge c.args.root) (sym back)
    (spread_alone edge c.args.root old new (λ k. none_in (length c.args.reversed.now) old k none) spread)
