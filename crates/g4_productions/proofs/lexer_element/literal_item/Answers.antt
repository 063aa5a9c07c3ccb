use Rattle.std.proofs.Common.{refl, sym, ◌∙◌}
use Rattle.g4_cursor.proofs.Moving.{so, upon, first, second, led}
use Rattle.g4_productions.proofs.lexer_element.literal_item.Goals as goal

pub returns-then-is_at : goal.returns-then-is_at
returns-then-is_at c = upon c.in_ok-taken.ensures
    (first (led _ _ _ refl ∙ sym c.is_at.ensures ∙ c.if-is_at.true)
    (upon c.take.ensures (so c.take-other.ensures
    (λ last r dots q literal p. rw (c.in_ok-first.ensures, c.in_ok-last.ensures, p.text, r.text) refl))))

pub returns : goal.returns
returns c = upon c.in_ok-taken.ensures (second (led _ _ _ refl ∙ sym c.is_at.ensures ∙ c.if-is_at.false)
    (so c.in_ok-right.ensures (λ options q literal p. rw (q, c.in_ok-first.ensures, p.text) refl)))
