use Rattle.std.proofs.Common.{◌≡◌, ◌+◌, ℕ, List, Some, length, ◌∙◌, refl, sym, ap, subst}
use Rattle.std.proofs.lemmas.List.{length_push}
use Rattle.std.proofs.lemmas.Option.{slice_get_read}
use Rattle.std.specs.List.{slice_get}
use Rattle.g4_stacks.specs.Canonical.{LeadBelow}
use Rattle.g4_stacks.specs.Hashing.{AreSumsOf, IsSumOf}
use Rattle.g4_stacks.specs.Listing.{stacks_below, stacks_of}
use Rattle.g4_stacks.specs.declared.sum.Sum.{Sum}
use Rattle.g4_stacks.proofs.Sums.{sum_of_next, sums_below, sums_push}
use Rattle.g4_stacks.proofs.shape.hash.sums_of_nodes.Goals as goal

pub sum_of_node-sum-requires : goal.sum_of_node-sum-requires
sum_of_node-sum-requires c =
    let nodes = c.args.nodes.now in
    let n = c.loop-held.held-index in
    let at : slice_get nodes n ≡ Some c.held-item.result =
    slice_get_read nodes (length nodes) n c.held-item.result refl c.loop-held-test.true c.held-item.is in
    let many : length c.as_slice.result.now ≡ n = ap length c.as_slice.ensures.value ∙ c.loop-held.invariant.0 in
    subst (λ (m : ℕ). LeadBelow m c.held-item.result.tops) (sym many) (c.requires.plain n c.held-item.result at).lower

pub loop-held-preserved : goal.loop-held-preserved
loop-held-preserved c =
    let nodes = c.args.nodes.now in
    let n = c.loop-held.held-index in
    let sums = c.loop-held.sums.items in
    let held = c.held-item.result in
    let sum = c.sum_of_node-sum.result in
    let canon = c.requires in
    let at : slice_get nodes n ≡ Some held = slice_get_read nodes (length nodes) n held refl c.loop-held-test.true c.held-item.is in
    let below : AreSumsOf c.as_slice.result.now (stacks_below nodes n) =
    subst (λ (xs : List Sum). AreSumsOf xs (stacks_below nodes n)) (sym c.as_slice.ensures.value)
    (subst (λ (m : ℕ). AreSumsOf sums (stacks_below nodes m)) c.loop-held.invariant.0
    (sums_below nodes canon sums c.loop-held.invariant.1)) in
    let here : IsSumOf sum (stacks_of nodes n) =
    sum_of_next nodes canon n held sum at (c.sum_of_node-sum.ensures (stacks_below nodes n) below) in
    let last : IsSumOf sum (stacks_of nodes (length sums)) =
    subst (λ (m : ℕ). IsSumOf sum (stacks_of nodes m)) (sym c.loop-held.invariant.0) here in (
      ap length c.in_ok-push.ensures.items ∙ (length_push sums sum ∙ ap (λ m. m + 1) c.loop-held.invariant.0),
      subst (λ (xs : List Sum). AreSumsOf xs (stacks_of nodes)) (sym c.in_ok-push.ensures.items)
          (sums_push (stacks_of nodes) sums sum c.loop-held.invariant.1 last),
    )
