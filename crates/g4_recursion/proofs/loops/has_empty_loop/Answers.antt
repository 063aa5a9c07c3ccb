use Rattle.std.proofs.Common.{◌≡◌, List, map, Some, refl, sym, subst, arith}
use Rattle.std.specs.List.{slice_get}
use Rattle.g4_source.specs.Elements.{Elements, either}
use Rattle.g4_source.specs.Trees.{element_of, in_order}
use Rattle.g4_grammar.specs.Loops.{SomeHasEmptyLoop}
use Rattle.g4_recursion.specs.declared.lead.Lead.{Lead}
use Rattle.g4_recursion.specs.Leads.{ReadsLead, CallsLead}
use Rattle.g4_recursion.proofs.Looping.{loop_found, no_loop_found, no_loops}
use Rattle.g4_recursion.proofs.Nodes.{elements_at}
use Rattle.g4_recursion.proofs.loops.has_empty_loop.Goals as goal

pub loop-elements-init : goal.loop-elements-init
loop-elements-init c = λ rules told. (λ h. h, λ h. h)

pub returns-then-of_elements : goal.returns-then-of_elements
returns-then-of_elements c =
    let xs = c.as_slice-elements-items.result.now in
    let i = c.loop-elements.elements-index in
    let x = in_order (map element_of c.as_slice.result.now) in
    let here : slice_get xs i ≡ Some x = elements_at xs i c.elements-item.result c.as_slice.result.now (omega arith)
    c.elements-item.is c.as_slice.ensures in
    λ rules told.
    let found = loop_found rules xs i x here ((c.of_elements.ensures rules told).looped.0 c.if-of_elements.true)
    (c.loop-elements.invariant rules told) in (
      λ h. subst (λ (ys : List (Elements Lead)). SomeHasEmptyLoop ReadsLead CallsLead rules (either ys))
          c.as_slice-elements-items.ensures found,
      λ h. refl,
    )

pub loop-elements-preserved : goal.loop-elements-preserved
loop-elements-preserved c =
    let xs = c.as_slice-elements-items.result.now in
    let i = c.loop-elements.elements-index in
    let x = in_order (map element_of c.as_slice.result.now) in
    let here : slice_get xs i ≡ Some x = elements_at xs i c.elements-item.result c.as_slice.result.now (omega arith)
    c.elements-item.is c.as_slice.ensures in
    λ rules told. no_loop_found rules xs i x here (λ h. let looped = (c.of_elements.ensures rules told).looped.1 h in cc)
    (c.loop-elements.invariant rules told)

pub returns : goal.returns
returns c =
    let xs = c.as_slice-elements-items.result.now in
    λ rules told. (
      λ h. absurd (cc),
      λ h. absurd (no_loops rules xs c.loop-elements.elements-index (omega arith) (c.loop-elements.invariant rules told)
          (subst (λ (ys : List (Elements Lead)). SomeHasEmptyLoop ReadsLead CallsLead rules (either ys))
          (sym c.as_slice-elements-items.ensures) h)),
    )
