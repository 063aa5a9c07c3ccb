use Rattle.std.proofs.Common.{refl, sym, ◌∙◌, ap, append-nil, ◌∷◌, arith, Bool, Some}
use Rattle.g4_syntax.specs.Notation.{a_set, characters}
use Rattle.g4_cursor.proofs.Moving.{so, two, upon, first, second, inside, led, ends, asks_same}
use Rattle.g4_cursor.proofs.Turning.{start, begun, turn, end_turns, sign_over, fewer, fewer_then, no_more}
use Rattle.g4_source.specs.declared.name.Name.{Name}
use Rattle.g4_source.specs.Elements.{Element, Elements}
use Rattle.g4_source.specs.Trees.{element_of, alternative_of, in_order}
use Rattle.g4_source.proofs.Trees.{of_elements}
use Rattle.g4_source.specs.declared.atom.Atom.{Atom}
use Rattle.g4_productions.specs.LexerElements.{lexer_element_of, lexer_elements, named_lexer_item, labelled_by, lexer_alternatives_after}
use Rattle.g4_productions.proofs.Listing.{listed_more}
use Rattle.g4_productions.proofs.lexer_element.+brackets.Goals as goal

pub unnamed_item-returns-then-is_at : goal.unnamed_item-returns-then-is_at
unnamed_item-returns-then-is_at t c = first (led _ _ _ refl ∙ asks_same _ characters _ (λ token. refl) ∙ sym c.is_at.ensures
    ∙ c.if-is_at.true) (c.in_ok-item.ensures)

pub unnamed_item-returns-then-is_at-2 : goal.unnamed_item-returns-then-is_at-2
unnamed_item-returns-then-is_at-2 t c = second
    (led _ _ _ refl ∙ asks_same _ characters _ (λ token. refl) ∙ sym c.is_at.ensures ∙ c.if-is_at.false)
    (first (asks_same _ a_set _ (λ token. refl) ∙ sym c.is_at-2.ensures ∙ c.if-is_at-2.true) (so c.in_ok-set.ensures (λ set r. rw r refl)))

pub unnamed_item-returns-then-is_at-3 : goal.unnamed_item-returns-then-is_at-3
unnamed_item-returns-then-is_at-3 t c = second
    (led _ _ _ refl ∙ asks_same _ characters _ (λ token. refl) ∙ sym c.is_at.ensures ∙ c.if-is_at.false)
    (second (asks_same _ a_set _ (λ token. refl) ∙ sym c.is_at-2.ensures ∙ c.if-is_at-2.false)
    (first (sym c.is_at-3.ensures ∙ c.if-is_at-3.true) (so c.take.ensures (λ dot p. refl))))

pub unnamed_item-returns-then-is_at-4 : goal.unnamed_item-returns-then-is_at-4
unnamed_item-returns-then-is_at-4 t c = second
    (led _ _ _ refl ∙ asks_same _ characters _ (λ token. refl) ∙ sym c.is_at.ensures ∙ c.if-is_at.false)
    (second (asks_same _ a_set _ (λ token. refl) ∙ sym c.is_at-2.ensures ∙ c.if-is_at-2.false)
    (second (sym c.is_at-3.ensures ∙ c.if-is_at-3.false)
    (first (led _ _ _ refl ∙ sym c.is_at-4.ensures ∙ c.if-is_at-4.true)
    (upon c.take-then-is_at-4.ensures (so c.in_ok-set-2.ensures (λ set r tilde p. rw r refl))))))

pub unnamed_item-returns : goal.unnamed_item-returns
unnamed_item-returns t c = second (led _ _ _ refl ∙ asks_same _ characters _ (λ token. refl) ∙ sym c.is_at.ensures ∙ c.if-is_at.false)
    (second (asks_same _ a_set _ (λ token. refl) ∙ sym c.is_at-2.ensures ∙ c.if-is_at-2.false)
    (second (sym c.is_at-3.ensures ∙ c.if-is_at-3.false)
    (second (led _ _ _ refl ∙ sym c.is_at-4.ensures ∙ c.if-is_at-4.false) (so c.in_ok-alternatives.ensures (λ b r. rw r refl)))))

pub item-returns-then-is_at : goal.item-returns-then-is_at
item-returns-then-is_at t c = first (led _ _ _ refl ∙ sym c.is_at.ensures ∙ c.if-is_at.true)
    (upon c.in_ok-name.ensures (so c.in_ok-right.ensures (λ r q n p. rw (q, p) refl)))

pub item-returns : goal.item-returns
item-returns t c = second (led _ _ _ refl ∙ sym c.is_at.ensures ∙ c.if-is_at.false) (c.in_ok-item.ensures)

pub labelled_by-item-requires : goal.labelled_by-item-requires
labelled_by-item-requires t c = omega (arith, no_more c.label_sign-list.ensures)

pub labelled_by-returns : goal.labelled_by-returns
labelled_by-returns t c = upon c.label_sign-list.ensures
    (so c.in_ok-labelled.ensures (λ i q a p. q ∙ ap
    (λ (list : Bool). named_lexer_item (Some (record { name = c.args.name; list = list })) i) p))

pub upper_item-labelled_by-requires : goal.upper_item-labelled_by-requires
upper_item-labelled_by-requires t c = omega (arith, no_more c.in_ok-name.ensures)

pub upper_item-returns-then-is_at_label_sign : goal.upper_item-returns-then-is_at_label_sign
upper_item-returns-then-is_at_label_sign t c =
    upon c.in_ok-name.ensures (first (led _ _ _ refl ∙ sym c.is_at_label_sign.ensures ∙ c.if-is_at_label_sign.true)
    (so c.in_ok-labelled.ensures (λ x q n p. q ∙ ap (λ (m : Name). labelled_by m x) p)))

pub upper_item-returns : goal.upper_item-returns
upper_item-returns t c = upon c.in_ok-name.ensures
    (second (led _ _ _ refl ∙ sym c.is_at_label_sign.ensures ∙ c.if-is_at_label_sign.false)
    (so c.in_ok-right.ensures (λ r q n p. rw (q, p) refl)))

pub labelled_item-labelled_by-requires : goal.labelled_item-labelled_by-requires
labelled_item-labelled_by-requires t c = omega (arith, no_more c.in_ok-name.ensures)

pub labelled_item-returns-then-is_at : goal.labelled_item-returns-then-is_at
labelled_item-returns-then-is_at t c = first (led _ _ _ refl ∙ sym c.is_at.ensures ∙ c.if-is_at.true)
    (upon c.in_ok-name.ensures (so c.in_ok-item.ensures (λ x q n p. q ∙ ap (λ (m : Name). labelled_by m x) p)))

pub labelled_item-returns-then-is_at-2 : goal.labelled_item-returns-then-is_at-2
labelled_item-returns-then-is_at-2 t c = second (led _ _ _ refl ∙ sym c.is_at.ensures ∙ c.if-is_at.false)
    (first (led _ _ _ refl ∙ sym c.is_at-2.ensures ∙ c.if-is_at-2.true) (c.in_ok-item-2.ensures))

pub labelled_item-returns : goal.labelled_item-returns
labelled_item-returns t c = second (led _ _ _ refl ∙ sym c.is_at.ensures ∙ c.if-is_at.false)
    (second (led _ _ _ refl ∙ sym c.is_at-2.ensures ∙ c.if-is_at-2.false) (c.in_ok-item-3.ensures))

pub element-returns-then-is_at : goal.element-returns-then-is_at
element-returns-then-is_at t c =
    inside (first (led _ _ _ refl ∙ sym c.is_at.ensures ∙ c.if-is_at.true)
    (so c.in_ok-action.ensures (λ a p. ap (λ (z : Element Atom × Bool). z.0) p)))

pub element-returns : goal.element-returns
element-returns t c = inside (second (led _ _ _ refl ∙ sym c.is_at.ensures ∙ c.if-is_at.false)
    (upon c.in_ok-item.ensures (so c.optional_suffix-repeat.ensures (λ s r x q. c.in_ok-element.ensures ∙ rw (q, r) refl))))

pub elements-loop-cursor-init : goal.elements-loop-cursor-init
elements-loop-cursor-init t c = begun (λ tree. rw c.new-elements.ensures.items refl)

pub elements-loop-cursor-preserved : goal.elements-loop-cursor-preserved
elements-loop-cursor-preserved t c = turn c.loop-cursor.invariant (sym c.is_at_element.ensures ∙ c.loop-cursor-test.true)
    c.in_ok-element.ensures (λ x rest p. listed_more element_of _ _ c.in_ok-element.element (lexer_element_of x) (lexer_elements rest)
    c.in_ok-push.ensures.items p)

pub elements-loop-cursor-smaller : goal.elements-loop-cursor-smaller
elements-loop-cursor-smaller t c = fewer (sym c.is_at_element.ensures ∙ c.loop-cursor-test.true) c.in_ok-element.ensures

pub elements-returns : goal.elements-returns
elements-returns t c = end_turns c.loop-cursor.invariant (sym c.is_at_element.ensures ∙ c.loop-cursor-test.false) (sym (append-nil _))

pub alternatives-elements-requires-in-loop-cursor : goal.alternatives-elements-requires-in-loop-cursor
alternatives-elements-requires-in-loop-cursor t c =
    omega (arith, no_more c.in_ok-first.ensures, c.loop-cursor.invariant.less, no_more c.take.ensures)

pub alternatives-loop-cursor-init : goal.alternatives-loop-cursor-init
alternatives-loop-cursor-init t c = start

pub alternatives-loop-cursor-preserved : goal.alternatives-loop-cursor-preserved
alternatives-loop-cursor-preserved t c = sign_over c.loop-cursor.invariant (sym c.is_at.ensures ∙ c.loop-cursor-test.true)
    c.take.ensures c.in_ok-elements.ensures (λ bar x rest p.
    listed_more alternative_of _ _ _ (in_order (lexer_elements x)) (lexer_alternatives_after rest) c.in_ok-push.ensures.items
    (of_elements c.in_ok-elements.elements ∙ ap in_order p))

pub alternatives-loop-cursor-smaller : goal.alternatives-loop-cursor-smaller
alternatives-loop-cursor-smaller t c = fewer_then (sym c.is_at.ensures ∙ c.loop-cursor-test.true) c.take.ensures c.in_ok-elements.ensures

pub alternatives-returns : goal.alternatives-returns
alternatives-returns t c = two c.in_ok-first.ensures
    (end_turns c.loop-cursor.invariant (led _ _ _ refl ∙ sym c.is_at.ensures ∙ c.loop-cursor-test.false) (sym (append-nil _)))
    (λ x xs p q. q ∙ rw c.in_ok-alternatives.ensures.items
    (ap (λ (es : Elements Atom). es ∷ lexer_alternatives_after xs) (of_elements c.in_ok-first.first ∙ ap in_order p)))

pub block-returns-then-not-open : goal.block-returns-then-not-open
block-returns-then-not-open t c = ends (sym c.open.ensures.opened ∙ c.if-not-open.true) c.open.ensures.moves

pub block-alternatives-requires : goal.block-alternatives-requires
block-alternatives-requires t c = omega (arith, fewer (sym c.open.ensures.opened ∙ c.if-not-open.false) c.open.ensures.moves)

pub block-returns : goal.block-returns
block-returns t c = upon c.open.ensures.moves (upon c.in_ok-alternatives.ensures (so c.take.ensures (λ closing s xs q opening p. q)))
