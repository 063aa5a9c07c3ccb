use Rattle.std.proofs.Common.{List, ℕ, Option, Some, sym, ◌∙◌, subst}
use Rattle.g4_cycles.specs.Edges.{EdgeOf, successors_of}
use Rattle.g4_cycles.specs.Marks.{AreDistances, IsLeast, HasDistance}
use Rattle.g4_cycles.proofs.EdgesOf.{reversed_within}
use Rattle.g4_cycles.proofs.Spreading.{distances_reversed}
use Rattle.g4_cycles.proofs.Shortest.{no_cycle}
use Rattle.g4_cycles.proofs.cycle.cycle_from.Goals as goal

pub distances_to-requires-clause-within : goal.distances_to-requires-clause-within
distances_to-requires-clause-within c = reversed_within c.args.graph.now c.args.reversed.now c.requires.reversed

pub returns-in-None : goal.returns-in-None
returns-in-None c =
    let graph = c.args.graph.now in
    let d = c.in_ok-distances.distances.items in
    let exact : AreDistances (EdgeOf graph) c.args.first d =
    distances_reversed graph c.args.reversed.now c.args.first d c.requires.reversed
    (c.in_ok-distances.ensures.size ∙ c.requires.reversed.size) c.in_ok-distances.ensures.exact in
    no_cycle graph c.args.first c.as_slice.result.now c.row.result.now c.row.ensures
    (subst (AreDistances (EdgeOf graph) c.args.first) (sym c.as_slice.ensures.value) exact) c.in-None.ensures

pub shortest_cycle-requires-clause-distances : goal.shortest_cycle-requires-clause-distances
shortest_cycle-requires-clause-distances c =
    let graph = c.args.graph.now in
    let d = c.in_ok-distances.distances.items in
    let exact : AreDistances (EdgeOf graph) c.args.first d =
    distances_reversed graph c.args.reversed.now c.args.first d c.requires.reversed
    (c.in_ok-distances.ensures.size ∙ c.requires.reversed.size) c.in_ok-distances.ensures.exact in
    subst (AreDistances (EdgeOf graph) c.args.first) (sym c.as_slice-in-Some.ensures.value) exact

pub shortest_cycle-requires-clause-least : goal.shortest_cycle-requires-clause-least
shortest_cycle-requires-clause-least c =
    let graph = c.args.graph.now in
    let m = c.in-Some.least in
    let d = c.as_slice.result.now in
    let least : IsLeast (HasDistance d (successors_of graph c.args.first)) (Some m) =
    subst (λ (xs : List ℕ). IsLeast (HasDistance d xs) (Some m)) c.row.ensures c.in-Some.ensures in
    subst (λ (e : List (Option ℕ)). IsLeast (HasDistance e (successors_of graph c.args.first)) (Some m))
    (c.as_slice.ensures.value ∙ sym c.as_slice-in-Some.ensures.value) least
