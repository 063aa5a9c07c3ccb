use Rattle.std.proofs.Common.{refl, sym, ◌∙◌, ap, append-nil, arith, Bool, List, Some}
use Rattle.g4_cursor.proofs.Moving.{so, two, upon, first, second, inside, led, ends}
use Rattle.g4_cursor.proofs.Turning.{start, begun, turn, end_turns, sign_over, fewer, fewer_then, no_more}
use Rattle.g4_source.specs.declared.name.Name.{Name}
use Rattle.g4_source.specs.Trees.{element_of, alternative_of, in_order}
use Rattle.g4_source.proofs.Trees.{of_elements}
use Rattle.g4_productions.specs.ParserElements.{parser_element, parser_elements, element_right, elements_right, named_item, labelled_after, alternative_elements, alternatives_after}
use Rattle.g4_productions.proofs.Listing.{listed_more}
use Rattle.g4_productions.proofs.Pairs.{pair}
use Rattle.g4_cursor.proofs.Ors.{either_of_three, or_none}
use Rattle.g4_source.specs.Elements.{Element}
use Rattle.g4_source.specs.declared.atom.Atom.{Atom}
use Rattle.g4_productions.proofs.parser_element.+brackets.Goals as goal

pub unnamed_item-returns-then-is_at : goal.unnamed_item-returns-then-is_at
unnamed_item-returns-then-is_at t c = first (led _ _ _ refl ∙ sym c.is_at.ensures ∙ c.if-is_at.true)
    (upon c.take-taken.ensures (so c.in_ok-right.ensures (λ options r literal p. rw (r, c.in_ok-literal.ensures, p.text) refl)))

pub unnamed_item-returns-then-is_at-2 : goal.unnamed_item-returns-then-is_at-2
unnamed_item-returns-then-is_at-2 t c = second (led _ _ _ refl ∙ sym c.is_at.ensures ∙ c.if-is_at.false)
    (first (led _ _ _ refl ∙ sym c.is_at-2.ensures ∙ c.if-is_at-2.true)
    (upon c.take.ensures (so c.in_ok-right-2.ensures (λ options r dot p. rw r refl))))

pub unnamed_item-returns-then-is_at-3 : goal.unnamed_item-returns-then-is_at-3
unnamed_item-returns-then-is_at-3 t c = second (led _ _ _ refl ∙ sym c.is_at.ensures ∙ c.if-is_at.false)
    (second (led _ _ _ refl ∙ sym c.is_at-2.ensures ∙ c.if-is_at-2.false)
    (first (led _ _ _ refl ∙ sym c.is_at-3.ensures ∙ c.if-is_at-3.true)
    (upon c.take-then-is_at-3.ensures (so c.in_ok-references.ensures (λ set r tilde p. rw r refl)))))

pub unnamed_item-returns : goal.unnamed_item-returns
unnamed_item-returns t c = second (led _ _ _ refl ∙ sym c.is_at.ensures ∙ c.if-is_at.false)
    (second (led _ _ _ refl ∙ sym c.is_at-2.ensures ∙ c.if-is_at-2.false)
    (second (led _ _ _ refl ∙ sym c.is_at-3.ensures ∙ c.if-is_at-3.false) (so c.in_ok-alternatives.ensures (λ b r. rw r refl))))

pub item-returns-then-is_at : goal.item-returns-then-is_at
item-returns-then-is_at t c = first (led _ _ _ refl ∙ sym c.is_at.ensures ∙ c.if-is_at.true)
    (upon c.in_ok-name.ensures (so c.in_ok-right.ensures (λ r q n p. rw (q, p) refl)))

pub item-returns-then-is_at-2 : goal.item-returns-then-is_at-2
item-returns-then-is_at-2 t c = second (led _ _ _ refl ∙ sym c.is_at.ensures ∙ c.if-is_at.false)
    (first (led _ _ _ refl ∙ sym c.is_at-2.ensures ∙ c.if-is_at-2.true)
    (upon c.in_ok-name-2.ensures (so c.in_ok-right-2.ensures (λ r q n p. rw (q, p) refl))))

pub item-returns : goal.item-returns
item-returns t c = second (led _ _ _ refl ∙ sym c.is_at.ensures ∙ c.if-is_at.false)
    (second (led _ _ _ refl ∙ sym c.is_at-2.ensures ∙ c.if-is_at-2.false) (c.in_ok-item.ensures))

pub labelled_after-item-requires : goal.labelled_after-item-requires
labelled_after-item-requires t c = omega (arith, no_more c.label_sign-list.ensures)

pub labelled_after-returns : goal.labelled_after-returns
labelled_after-returns t c = upon c.label_sign-list.ensures
    (so c.in_ok-labelled.ensures (λ i q a p. q ∙ ap (λ (list : Bool). named_item (Some (record { name = c.args.name; list = list })) i) p))

pub lower_item-labelled_after-requires : goal.lower_item-labelled_after-requires
lower_item-labelled_after-requires t c = omega (arith, no_more c.in_ok-name.ensures)

pub lower_item-returns-then-is_at_label_sign : goal.lower_item-returns-then-is_at_label_sign
lower_item-returns-then-is_at_label_sign t c =
    upon c.in_ok-name.ensures (first (led _ _ _ refl ∙ sym c.is_at_label_sign.ensures ∙ c.if-is_at_label_sign.true)
    (so c.in_ok-labelled.ensures (λ x q n p. q ∙ ap (λ (m : Name). labelled_after m x) p)))

pub lower_item-returns : goal.lower_item-returns
lower_item-returns t c = upon c.in_ok-name.ensures
    (second (led _ _ _ refl ∙ sym c.is_at_label_sign.ensures ∙ c.if-is_at_label_sign.false)
    (so c.in_ok-right.ensures (λ r q n p. rw (q, p) refl)))

pub upper_item-labelled_after-requires : goal.upper_item-labelled_after-requires
upper_item-labelled_after-requires t c = omega (arith, no_more c.in_ok-name.ensures)

pub upper_item-returns-then-is_at_label_sign : goal.upper_item-returns-then-is_at_label_sign
upper_item-returns-then-is_at_label_sign t c =
    upon c.in_ok-name.ensures (first (led _ _ _ refl ∙ sym c.is_at_label_sign.ensures ∙ c.if-is_at_label_sign.true)
    (so c.in_ok-labelled.ensures (λ x q n p. q ∙ ap (λ (m : Name). labelled_after m x) p)))

pub upper_item-returns : goal.upper_item-returns
upper_item-returns t c = upon c.in_ok-name.ensures
    (second (led _ _ _ refl ∙ sym c.is_at_label_sign.ensures ∙ c.if-is_at_label_sign.false)
    (so c.in_ok-right.ensures (λ r q n p. rw (q, p) refl)))

pub labelled_item-returns-then-is_at : goal.labelled_item-returns-then-is_at
labelled_item-returns-then-is_at t c = first (led _ _ _ refl ∙ sym c.is_at.ensures ∙ c.if-is_at.true) (c.in_ok-item.ensures)

pub labelled_item-returns-then-is_at-2 : goal.labelled_item-returns-then-is_at-2
labelled_item-returns-then-is_at-2 t c = second (led _ _ _ refl ∙ sym c.is_at.ensures ∙ c.if-is_at.false)
    (first (led _ _ _ refl ∙ sym c.is_at-2.ensures ∙ c.if-is_at-2.true) (c.in_ok-item-2.ensures))

pub labelled_item-returns : goal.labelled_item-returns
labelled_item-returns t c = second (led _ _ _ refl ∙ sym c.is_at.ensures ∙ c.if-is_at.false)
    (second (led _ _ _ refl ∙ sym c.is_at-2.ensures ∙ c.if-is_at-2.false) (c.in_ok-item-3.ensures))

pub element-returns-then-is_at : goal.element-returns-then-is_at
element-returns-then-is_at t c = inside (first (led _ _ _ refl ∙ sym c.is_at.ensures ∙ c.if-is_at.true) (c.in_ok-action.ensures))

pub element-returns : goal.element-returns
element-returns t c = inside (second (led _ _ _ refl ∙ sym c.is_at.ensures ∙ c.if-is_at.false)
    (upon c.in_ok-labelled.ensures (so c.optional_suffix-repeat.ensures
    (λ s r x q. ap (λ (e : Element Atom). (e, c.is_right-right.result)) c.in_ok-element.ensures
    ∙ rw (c.is_right-right.ensures, q, r) refl))))

pub elements-loop-cursor-init : goal.elements-loop-cursor-init
elements-loop-cursor-init t c = begun (λ tree. rw c.new-elements.ensures.items refl)

pub elements-loop-cursor-preserved : goal.elements-loop-cursor-preserved
elements-loop-cursor-preserved t c = turn c.loop-cursor.invariant (sym c.is_at_element.ensures ∙ c.loop-cursor-test.true)
    c.in_ok-next.ensures (λ x rest p. pair (listed_more element_of _ _ c.in_ok-next.next.element (parser_element x)
    (parser_elements rest) c.in_ok-push.ensures.items (ap (λ (z : Element Atom × Bool). z.0) p))
    (rw (ap (λ (z : Element Atom × Bool). z.1) p) (either_of_three c.loop-cursor.right (element_right x) (elements_right rest))))

pub elements-loop-cursor-smaller : goal.elements-loop-cursor-smaller
elements-loop-cursor-smaller t c = fewer (sym c.is_at_element.ensures ∙ c.loop-cursor-test.true) c.in_ok-next.ensures

pub elements-returns : goal.elements-returns
elements-returns t c = end_turns c.loop-cursor.invariant (sym c.is_at_element.ensures ∙ c.loop-cursor-test.false)
    (pair (sym (append-nil _)) (or_none _))

pub alternative-elements-requires : goal.alternative-elements-requires
alternative-elements-requires t c = omega (arith, no_more c.in_ok-optional_element_options.ensures)

pub alternative-returns : goal.alternative-returns
alternative-returns t c = upon c.in_ok-optional_element_options.ensures
    (so c.in_ok-list.ensures (λ xs q options p. of_elements c.in_ok-list.list.elements
    ∙ ap in_order (ap (λ (z : List (Element Atom) × Bool). z.0) q)))

pub alternatives-alternative-requires-in-loop-cursor : goal.alternatives-alternative-requires-in-loop-cursor
alternatives-alternative-requires-in-loop-cursor t c =
    omega (arith, no_more c.in_ok-first.ensures, c.loop-cursor.invariant.less, no_more c.take.ensures)

pub alternatives-loop-cursor-init : goal.alternatives-loop-cursor-init
alternatives-loop-cursor-init t c = start

pub alternatives-loop-cursor-preserved : goal.alternatives-loop-cursor-preserved
alternatives-loop-cursor-preserved t c = sign_over c.loop-cursor.invariant (sym c.is_at.ensures ∙ c.loop-cursor-test.true)
    c.take.ensures c.in_ok-alternative.ensures (λ bar x rest p.
    listed_more alternative_of _ _ c.in_ok-alternative.alternative (alternative_elements x) (alternatives_after rest)
    c.in_ok-push.ensures.items p)

pub alternatives-loop-cursor-smaller : goal.alternatives-loop-cursor-smaller
alternatives-loop-cursor-smaller t c = fewer_then (sym c.is_at.ensures ∙ c.loop-cursor-test.true) c.take.ensures c.in_ok-alternative.ensures

pub alternatives-returns : goal.alternatives-returns
alternatives-returns t c = two c.in_ok-first.ensures
    (end_turns c.loop-cursor.invariant (led _ _ _ refl ∙ sym c.is_at.ensures ∙ c.loop-cursor-test.false) (sym (append-nil _)))
    (λ x xs p q. q ∙ rw (c.in_ok-alternatives.ensures.items, p) refl)

pub block-returns-then-not-open : goal.block-returns-then-not-open
block-returns-then-not-open t c = ends (sym c.open.ensures.opened ∙ c.if-not-open.true) c.open.ensures.moves

pub block-alternatives-requires : goal.block-alternatives-requires
block-alternatives-requires t c = omega (
  arith,
  fewer (sym c.open.ensures.opened ∙ c.if-not-open.false) c.open.ensures.moves,
  no_more c.in_ok-pass_block_prequel.ensures,
)

pub block-returns : goal.block-returns
block-returns t c = upon c.open.ensures.moves
    (upon c.in_ok-pass_block_prequel.ensures (upon c.in_ok-alternatives.ensures
    (so c.take.ensures (λ closing s xs q prequel r opening p. q))))
