use Rattle.std.proofs.Common.{◌≡◌, length, Some, refl, sym, ◌∙◌, subst}
use Rattle.std.specs.List.{slice_get}
use Rattle.std.proofs.lemmas.Option.{same_Some, slice_get_read, slice_get_within}
use Rattle.g4_source.specs.Elements.{Elements}
use Rattle.g4_recursion.specs.declared.lead.Lead.{Lead}
use Rattle.g4_recursion.specs.AtomLeads.{IsEmptyAfterCall, IsEmptyAt}
use Rattle.g4_recursion.proofs.Searching.{all_passed, least_found, one_passed}
use Rattle.g4_recursion.proofs.direct.first_empty.Goals as goal

pub returns-then-is_empty_after_call : goal.returns-then-is_empty_after_call
returns-then-is_empty_after_call c =
    let xs = c.args.alternatives.now in
    let x = c.index-alternatives-place.result in
    let here : slice_get xs c.loop-place.place ≡ Some x =
    slice_get_read xs (length xs) c.loop-place.place x refl c.loop-place-test.true c.index-alternatives-place.is in
    λ rules told. least_found (IsEmptyAt rules c.args.number xs) c.loop-place.place (c.loop-place.invariant rules told)
    (x, here, (c.is_empty_after_call.ensures rules told).0 c.if-is_empty_after_call.true)

pub loop-place-preserved : goal.loop-place-preserved
loop-place-preserved c =
    let xs = c.args.alternatives.now in
    let x = c.index-alternatives-place.result in
    let here : slice_get xs c.loop-place.place ≡ Some x =
    slice_get_read xs (length xs) c.loop-place.place x refl c.loop-place-test.true c.index-alternatives-place.is in
    λ rules told. one_passed (IsEmptyAt rules c.args.number xs) c.loop-place.place (c.loop-place.invariant rules told)
    (λ (elements, at, empty).
    let yes = (c.is_empty_after_call.ensures rules told).1
    (subst (λ (ys : Elements Lead). IsEmptyAfterCall rules c.args.number ys) (same_Some elements x (sym at ∙ here)) empty) in cc)

pub returns : goal.returns
returns c =
    let xs = c.args.alternatives.now in
    λ rules told. all_passed (IsEmptyAt rules c.args.number xs) c.loop-place.place (length xs) c.loop-place-test.false
    (λ k (elements, at, empty). slice_get_within xs k elements at) (c.loop-place.invariant rules told)
