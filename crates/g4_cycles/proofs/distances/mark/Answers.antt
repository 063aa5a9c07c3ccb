use Rattle.std.proofs.Common.{◌≡◌, [], ℕ, List, get_or, Contains, refl, ◌∙◌, ap, subst}
use Rattle.std.proofs.lemmas.List.{take_all}
use Rattle.g4_cycles.specs.Marks.{AreMarked}
use Rattle.g4_cycles.proofs.EdgesOf.{nothing_in}
use Rattle.g4_cycles.proofs.Marking.{marked_none, marked_before, marked_now, marked_as, nodes_go_on}
use Rattle.g4_cycles.proofs.distances.mark.Goals as goal
use Rattle.g4_cycles.proofs.distances.mark.Goals.{then-is_open+in_ok-push, else-is_open}

pub loop-node-init : goal.loop-node-init
loop-node-init c = marked_none c.args.distance (Contains {X = ℕ} []) c.args.distances.now c.args.found.now.items
    (λ k has. nothing_in [] k refl has)

pub loop-node-preserved : goal.loop-node-preserved
loop-node-preserved c =
    let x = get_or c.args.nodes.now c.loop-node.node-index 0 in
    let distance = c.args.distance in
    let mid = c.loop-node.distances in
    let passed = c.loop-node.found.items in
    let step : AreMarked (λ k. k ≡ x) distance mid passed c.if-is_open.distances c.if-is_open.found.items = elim c.if-is_open.branch [
      | then-is_open+in_ok-push w ↦ marked_as (λ k. k ≡ x) distance mid passed _ _ _ _ w.distances-is
          (ap (λ v. v.items) w.found-is ∙ w.in_ok-push.ensures.items)
          (marked_now distance x mid passed (c.is_open.ensures.0 w.if-is_open.true))
      | else-is_open w ↦ marked_as (λ k. k ≡ x) distance mid passed _ _ _ _ w.distances-is (ap (λ v. v.items) w.found-is)
          (marked_before distance x mid passed (λ open'. let yes = c.is_open.ensures.1 open' in absurd (cc)))
    ] in
    nodes_go_on distance c.args.distances.now mid c.if-is_open.distances c.args.found.now.items passed c.if-is_open.found.items
    c.args.nodes.now c.loop-node.node-index c.loop-node-test.true c.loop-node.invariant step

pub returns : goal.returns
returns c = subst (λ (xs : List ℕ). AreMarked (Contains xs) c.args.distance c.args.distances.now c.args.found.now.items
    c.loop-node.distances c.loop-node.found.items) (take_all c.loop-node.node-index c.args.nodes.now c.loop-node-test.false)
    c.loop-node.invariant
