use Rattle.std.proofs.Common.{◌<◌, ◌+◌, ◌++◌, ◌∷◌, [], ℕ, List, length, get_or, take, refl, sym, ◌∙◌, ap, subst}
use Rattle.g4_cycles.specs.Edges.{AddsReversed}
use Rattle.g4_cycles.proofs.EdgesOf.{adds_past, adds_one, row_at}
use Rattle.g4_cycles.proofs.graph.add_reversed.Goals as goal
use Rattle.g4_cycles.proofs.graph.add_reversed.Goals.{then-index-reversed+in_ok-push, else-index-reversed}

pub loop-next-preserved : goal.loop-next-preserved
loop-next-preserved c =
    let node = c.args.node in
    let xs = c.args.successors.now in
    let i = c.loop-next.next-index in
    let x = get_or xs i 0 in
    let mid = c.loop-next.reversed in
    elim c.if-index-reversed.branch [
      | then-index-reversed+in_ok-push w ↦ (
          let short : x < length mid = w.if-index-reversed.true in
          adds_one node c.args.reversed.now mid c.if-index-reversed.reversed xs i x w.push.new.self c.loop-next-test.true refl short
          w.reversed-is
          (w.in_ok-push.ensures.items ∙ ap (λ (ys : List ℕ). ys ++ node ∷ []) (sym (row_at mid x _ short))) c.loop-next.invariant
          )
      | else-index-reversed w ↦ subst (AddsReversed node (take (i + 1) xs) c.args.reversed.now) (sym w.reversed-is)
          (adds_past node c.args.reversed.now mid xs i x c.loop-next-test.true refl w.if-index-reversed.false c.loop-next.invariant)
    ]
