use Rattle.std.proofs.Common.{◌≡◌, List, map, Some, subst, arith}
use Rattle.std.specs.List.{slice_get}
use Rattle.std.proofs.lemmas.List.{take_all}
use Rattle.g4_source.specs.Elements.{Elements, either}
use Rattle.g4_source.specs.Trees.{element_of, in_order}
use Rattle.g4_recursion.specs.declared.lead.Lead.{Lead}
use Rattle.g4_recursion.specs.Bodies.{IsCovered}
use Rattle.g4_recursion.proofs.Growing.{grows_none, grows_more, covered_none, covered_more}
use Rattle.g4_recursion.proofs.Nodes.{elements_at}
use Rattle.g4_recursion.proofs.Trees.{alternative_at}
use Rattle.g4_recursion.proofs.clauses.add_rule.Goals as goal

pub loop-elements-init : goal.loop-elements-init
loop-elements-init c = λ rules bodies are at. (
  bodies,
  grows_none rules bodies c.args.made.now are,
  covered_none rules bodies c.args.made.now.clauses.items c.args.number c.args.alternatives.now,
)

pub loop-elements-preserved : goal.loop-elements-preserved
loop-elements-preserved c =
    let xs = c.args.alternatives.now in
    let i = c.loop-elements.elements-index in
    let x = in_order (map element_of c.as_slice.result.now) in
    let here : slice_get xs i ≡ Some x = elements_at xs i c.elements-item.result c.as_slice.result.now (omega arith)
    c.elements-item.is c.as_slice.ensures in
    λ rules bodies are at.
    let (mid, g, covered) = c.loop-elements.invariant rules bodies are at in
    let (later, h, has) = c.in_ok-add_alternative.ensures rules mid (either xs) g.are_bodies
    (g.bodies_kept c.args.number (either xs) at) (alternative_at xs i x here) in (
      later,
      grows_more rules bodies mid later c.args.made.now c.loop-elements.made c.add_alternative.new.made g h,
      covered_more rules mid later c.loop-elements.made c.add_alternative.new.made c.args.number xs i x h here covered has,
    )

pub returns : goal.returns
returns c =
    λ rules bodies are at.
    let (later, g, covered) = c.loop-elements.invariant rules bodies are at in (
      later,
      g,
      subst (λ (ys : List (Elements Lead)).
          IsCovered rules later c.loop-elements.made.clauses.items c.args.number (either ys))
          (take_all c.loop-elements.elements-index c.args.alternatives.now (omega arith)) covered,
    )
