use Rattle.std.proofs.Common.{rules, ◌≡◌, ◌++◌, ℕ, List, Option, IsSome, IsTrue, Contains, length, set, take, drop, refl, sym, subst, arith}
use Rattle.std.proofs.lemmas.List.Elements.{All-contains}
use Rattle.g4_cycles.specs.Edges.{Backward}
use Rattle.g4_cycles.specs.Marks.{IsOpen, IsSpread, distance_of}
use Rattle.g4_cycles.proofs.EdgesOf.{came_back}
use Rattle.g4_cycles.proofs.Settling.{IsSettled, settled_first, settled_more}
use Rattle.g4_cycles.proofs.acyclic.acyclic_nodes.Goals as goal

pub loop-node-init : goal.loop-node-init
loop-node-init c =
    settled_first (Backward c.args.reversed.now) (length c.args.graph.now) c.in_ok-found.found.items c.in_ok-acyclic.acyclic.items
    (c.in_ok-found.ensures.items_if_clones_equal (λ y is. search rules))
    (c.in_ok-acyclic.ensures.items_if_clones_equal (λ y is. search rules))

pub spread-requires-clause-within : goal.spread-requires-clause-within
spread-requires-clause-within c = λ k i e. let less = c.requires.within k i e in
    omega (arith, less, c.deref_mut.ensures.len, c.loop-node.invariant.size, c.requires.size)

pub loop-node-preserved : goal.loop-node-preserved
loop-node-preserved c =
    let edge = Backward c.args.reversed.now in
    let n = length c.args.graph.now in
    let x = c.in-Some.node.now in
    let found = c.loop-node.found.items in
    let new = c.spread.new.distances in
    let back : take c.loop-node.found.len (new ++ drop (length new) found) ≡ new =
    came_back c.loop-node.found.len new found (omega arith) in
    let spread : IsSpread edge x found new = subst (λ (d : List (Option ℕ)). IsSpread edge x d new) c.deref_mut.ensures.value
    c.in_ok-spread.ensures in
    let is_open : IsTrue c.is_open.result = search rules in
    let open' : IsOpen found x = subst (λ (d : List (Option ℕ)). IsOpen d x) c.deref.ensures.value (c.is_open.ensures.0 is_open) in
    let all : IsTrue c.have_distances.result → (k : ℕ) → edge k x → IsSome (distance_of found k) = λ marked k e.
    subst (λ (d : List (Option ℕ)). IsSome (distance_of d k)) c.deref-in-loop-node.ensures.value
    (All-contains (λ (i : ℕ). IsSome (distance_of c.deref-in-loop-node.result.now i)) c.row.result.now k
    (c.have_distances.ensures.0 marked) (subst (λ (xs : List ℕ). Contains xs k) (sym c.row.ensures) e)) in
    let marked = set c.loop-node.acyclic.items x c.have_distances.result in
    subst (λ (d : List (Option ℕ)). IsSettled edge n d marked) (sym back)
    (settled_more edge n x found new c.loop-node.acyclic.items marked c.have_distances.result open' refl all spread
    c.loop-node.invariant)
