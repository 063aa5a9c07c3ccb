use Rattle.std.proofs.Common.{◌≡◌, List, [], ◌∷◌, ◌++◌, map, Some, refl, subst, arith}
use Rattle.std.specs.List.{slice_get}
use Rattle.g4_source.specs.declared.element.Repeat.TheVariants.{Once, Optional, Star, Plus}
use Rattle.g4_source.specs.Elements.{Element, Elements, either}
use Rattle.g4_source.specs.Trees.{element_of, alternative_of, in_order}
use Rattle.g4_horn.specs.declared.clause.Clause.{Clause}
use Rattle.g4_recursion.specs.declared.lead.Lead.{Lead}
use Rattle.g4_recursion.specs.declared.clauses.Bodies.{Bodies}
use Rattle.g4_recursion.specs.Bodies.{AddsNeeds, AreBodies, HaveNeeds, IsCovered}
use Rattle.g4_recursion.proofs.Growing.{grows_none, grows_more, needs_none, needs_more, so_often, optional_block, star_block, once_block, plus_block, are_numbered, numbered_at, grows_numbered, clause_pushed, has_pushed, covered_none, covered_more}
use Rattle.g4_recursion.proofs.Nodes.{atom_tree, block_tree, side_at, node_at}
use Rattle.g4_recursion.proofs.Trees.{take_map, alternative_at, nullable_at}
use Rattle.g4_recursion.proofs.clauses.+clauses.Goals as goal

pub add_needs-returns-in_ok-can-in-Atom : goal.add_needs-returns-in_ok-can-in-Atom
add_needs-returns-in_ok-can-in-Atom t c =
    λ rules bodies are. (
      bodies,
      grows_none rules bodies c.args.made.now are,
      subst (λ (x : Element Lead). AddsNeeds rules bodies x c.args.needs.now.items c.add_need_of_lead.new.needs.items
          c.in_ok-can-in-Atom.can)
          (atom_tree c.args.element.now c.in-Atom.lead c.in-Atom.is) (c.in_ok-can-in-Atom.ensures rules bodies are.rule_count),
    )

pub add_needs-returns-in_ok-can-in-Block : goal.add_needs-returns-in_ok-can-in-Block
add_needs-returns-in_ok-can-in-Block t c =
    λ rules bodies are. let (later, g, adds) = c.in_ok-can-in-Block.ensures rules bodies are in (
      later,
      g,
      subst (λ (x : Element Lead). AddsNeeds rules later x c.args.needs.now.items c.add_needs_of_block.new.needs.items
          c.in_ok-can-in-Block.can)
          (block_tree c.args.element.now c.in-Block.field-0 c.in-Block.repeat c.in-Block.alternatives c.as_slice.result.now
          c.in-Block.is c.as_slice.ensures.value) (adds c.in-Block.field-0),
    )

pub add_needs_of_block-returns-in-Optional : goal.add_needs_of_block-returns-in-Optional
add_needs_of_block-returns-in-Optional t c =
    let xs = either (map alternative_of c.args.alternatives.now) in
    let ns = c.args.needs.now.items in
    λ rules bodies are. (
      bodies,
      grows_none rules bodies c.args.made.now are,
      λ label. so_often rules bodies ns ns _ label c.args.repeat (Optional c.in-Optional.field-0) xs c.in-Optional.is
          (optional_block rules bodies ns label c.in-Optional.field-0 xs),
    )

pub add_needs_of_block-returns-in-Star : goal.add_needs_of_block-returns-in-Star
add_needs_of_block-returns-in-Star t c =
    let xs = either (map alternative_of c.args.alternatives.now) in
    let ns = c.args.needs.now.items in
    λ rules bodies are. (
      bodies,
      grows_none rules bodies c.args.made.now are,
      λ label. so_often rules bodies ns ns _ label c.args.repeat (Star c.in-Star.field-0) xs c.in-Star.is
          (star_block rules bodies ns label c.in-Star.field-0 xs),
    )

pub add_needs_of_block-returns-in_ok-push-in-Once : goal.add_needs_of_block-returns-in_ok-push-in-Once
add_needs_of_block-returns-in_ok-push-in-Once t c =
    let xs = either (map alternative_of c.args.alternatives.now) in
    let ns = c.args.needs.now.items in
    let after = c.push.new.self.items in
    λ rules bodies are. let (later, g, at) = c.in_ok-number-in-Once.ensures rules bodies are in (
      later,
      g,
      λ label. so_often rules later ns after _ label c.args.repeat Once xs c.in-Once.is
          (once_block rules later ns label xs c.in_ok-number-in-Once.number after c.in_ok-push-in-Once.ensures.items at),
    )

pub add_needs_of_block-returns-in_ok-push-in-Plus : goal.add_needs_of_block-returns-in_ok-push-in-Plus
add_needs_of_block-returns-in_ok-push-in-Plus t c =
    let xs = either (map alternative_of c.args.alternatives.now) in
    let ns = c.args.needs.now.items in
    let after = c.push-in-Plus.new.self.items in
    λ rules bodies are. let (later, g, at) = c.in_ok-number-in-Plus.ensures rules bodies are in (
      later,
      g,
      λ label. so_often rules later ns after _ label c.args.repeat (Plus c.in-Plus.field-0) xs c.in-Plus.is
          (plus_block rules later ns label c.in-Plus.field-0 xs c.in_ok-number-in-Plus.number after c.in_ok-push-in-Plus.ensures.items at),
    )

pub add_block-returns : goal.add_block-returns
add_block-returns t c =
    let xs = either (map alternative_of c.args.alternatives.now) in
    let before = c.args.made.now in
    let numbered = c.add.new.self in
    let n = c.in_ok-number.number in
    λ rules bodies are.
    let e : AreBodies rules (bodies ++ xs ∷ []) numbered =
    are_numbered rules bodies before numbered n xs c.in_ok-number.ensures.number.0 c.in_ok-number.ensures.number.1
    c.add.ensures.same.0 c.add.ensures.same.1 are in
    let at : slice_get (bodies ++ xs ∷ []) n ≡ Some xs =
    numbered_at rules bodies before numbered n xs c.in_ok-number.ensures.number.0 c.in_ok-number.ensures.number.1
    c.add.ensures.same.0 c.add.ensures.same.1 are in
    let (later, g, covered) = c.in_ok-add_alternatives.ensures rules (bodies ++ xs ∷ []) e at in (
      later,
      grows_numbered rules bodies before numbered n xs c.in_ok-number.ensures.number.0 c.in_ok-number.ensures.number.1
          c.add.ensures.same.0 c.add.ensures.same.1 are later c.add_alternatives.new.made g covered,
      g.bodies_kept n xs at,
    )

pub add_alternatives-loop-alternative-init : goal.add_alternatives-loop-alternative-init
add_alternatives-loop-alternative-init t c =
    λ rules bodies are at. (
      bodies,
      grows_none rules bodies c.args.made.now are,
      covered_none rules bodies c.args.made.now.clauses.items c.args.number (map alternative_of c.args.alternatives.now),
    )

pub add_alternatives-loop-alternative-preserved : goal.add_alternatives-loop-alternative-preserved
add_alternatives-loop-alternative-preserved t c =
    let xs = map alternative_of c.args.alternatives.now in
    let i = c.loop-alternative.alternative-index in
    let x = in_order (map element_of c.as_slice.result.now) in
    let here : slice_get xs i ≡ Some x = side_at c.args.alternatives.now i c.alternative-item.result c.as_slice.result.now
    (omega arith) c.alternative-item.is c.as_slice.ensures.value in
    λ rules bodies are at.
    let (mid, g, covered) = c.loop-alternative.invariant rules bodies are at in
    let (later, h, has) = c.in_ok-add_alternative.ensures rules mid (either xs) g.are_bodies
    (g.bodies_kept c.args.number (either xs) at) (alternative_at xs i x here) in (
      later,
      grows_more rules bodies mid later c.args.made.now c.loop-alternative.made c.add_alternative.new.made g h,
      covered_more rules mid later c.loop-alternative.made c.add_alternative.new.made c.args.number xs i x h here covered has,
    )

pub add_alternatives-returns : goal.add_alternatives-returns
add_alternatives-returns t c =
    let xs = map alternative_of c.args.alternatives.now in
    λ rules bodies are at.
    let (later, g, covered) = c.loop-alternative.invariant rules bodies are at in (
      later,
      g,
      subst (λ (ys : List (Elements Lead)).
          IsCovered rules later c.loop-alternative.made.clauses.items c.args.number (either ys))
          (take_map alternative_of c.args.alternatives.now c.loop-alternative.alternative-index (omega arith)) covered,
    )

pub add_alternative-loop-element-init : goal.add_alternative-loop-element-init
add_alternative-loop-element-init t c = λ rules bodies are. (
  bodies,
  grows_none rules bodies c.args.made.now are,
  needs_none rules bodies (map element_of c.args.elements.now) c.new-needs.result.items c.new-needs.ensures.items,
)

pub add_alternative-returns-then-not-can : goal.add_alternative-returns-then-not-can
add_alternative-returns-then-not-can t c =
    let xs = map element_of c.args.elements.now in
    let i = c.loop-element.element-index in
    let here : slice_get xs i ≡ Some (element_of c.element-item.result) =
    node_at c.args.elements.now i c.element-item.result (omega arith) c.element-item.is in
    λ rules bodies body are at among.
    let (mid, g, so_far) = c.loop-element.invariant rules bodies are in
    let (later, h, adds) = c.in_ok-can.ensures rules mid g.are_bodies in (
      later,
      grows_more rules bodies mid later c.args.made.now c.loop-element.made c.add_needs.new.made g h,
      λ all. absurd (adds.never c.if-not-can.true (nullable_at rules xs i (element_of c.element-item.result) here all)),
    )

pub add_alternative-loop-element-preserved : goal.add_alternative-loop-element-preserved
add_alternative-loop-element-preserved t c =
    let xs = map element_of c.args.elements.now in
    let i = c.loop-element.element-index in
    let here : slice_get xs i ≡ Some (element_of c.element-item.result) =
    node_at c.args.elements.now i c.element-item.result (omega arith) c.element-item.is in
    λ rules bodies are.
    let (mid, g, so_far) = c.loop-element.invariant rules bodies are in
    let (later, h, adds) = c.in_ok-can.ensures rules mid g.are_bodies in
    let (us, added, need) = adds.added c.if-not-can.false in (
      later,
      grows_more rules bodies mid later c.args.made.now c.loop-element.made c.add_needs.new.made g h,
      needs_more rules mid later xs i (element_of c.element-item.result) c.loop-element.needs.items c.add_needs.new.needs.items us
          h.bodies_kept here so_far added need,
    )

pub add_alternative-returns : goal.add_alternative-returns
add_alternative-returns t c =
    let xs = map element_of c.args.elements.now in
    let made = c.loop-element.made in
    let clause : Clause = record { head = c.args.number; needs = c.loop-element.needs } in
    let after : Bodies = record made { clauses = c.push.new.self } in
    λ rules bodies body are at among.
    let (later, g, so_far) = c.loop-element.invariant rules bodies are in
    let needs : HaveNeeds rules later (in_order xs) c.loop-element.needs.items =
    subst (λ (ys : List (Element Lead)). HaveNeeds rules later (in_order ys) c.loop-element.needs.items)
    (take_map element_of c.args.elements.now c.loop-element.element-index (omega arith)) so_far in (
      later,
      clause_pushed rules bodies later c.args.made.now made after c.args.number body (in_order xs) clause g at among refl needs
          c.in_ok-push.ensures.items refl refl,
      λ all. has_pushed rules bodies later c.args.made.now made after c.args.number body (in_order xs) clause g at among refl needs
          c.in_ok-push.ensures.items refl refl,
    )
