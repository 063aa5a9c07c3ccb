use Rattle.std.proofs.Common.{refl, sym, ◌∙◌}
use Rattle.g4_cursor.proofs.Moving.{so, upon, first, second, led}
use Rattle.g4_cursor.proofs.prequel.prequel.Goals as goal

pub returns-then-is_at_word : goal.returns-then-is_at_word
returns-then-is_at_word c = first (led _ _ _ refl ∙ sym c.is_at_word.ensures ∙ c.if-is_at_word.true)
    (so c.in_ok-settings.ensures (λ tree p. rw p refl))

pub returns-then-is_at_word-2 : goal.returns-then-is_at_word-2
returns-then-is_at_word-2 c = second (led _ _ _ refl ∙ sym c.is_at_word.ensures ∙ c.if-is_at_word.false)
    (first (led _ _ _ refl ∙ sym c.is_at_word-2.ensures ∙ c.if-is_at_word-2.true) (so c.in_ok-import.ensures (λ tree p. rw p refl)))

pub returns-then-is_at_word-3 : goal.returns-then-is_at_word-3
returns-then-is_at_word-3 c = second (led _ _ _ refl ∙ sym c.is_at_word.ensures ∙ c.if-is_at_word.false)
    (second (led _ _ _ refl ∙ sym c.is_at_word-2.ensures ∙ c.if-is_at_word-2.false)
    (first (led _ _ _ refl ∙ sym c.is_at_word-3.ensures ∙ c.if-is_at_word-3.true)
    (upon c.take_word.ensures (so c.in_ok-names.ensures (λ ns q keyword p. rw (p.place, q) refl)))))

pub returns-then-is_at_word-4 : goal.returns-then-is_at_word-4
returns-then-is_at_word-4 c = second (led _ _ _ refl ∙ sym c.is_at_word.ensures ∙ c.if-is_at_word.false)
    (second (led _ _ _ refl ∙ sym c.is_at_word-2.ensures ∙ c.if-is_at_word-2.false)
    (second (led _ _ _ refl ∙ sym c.is_at_word-3.ensures ∙ c.if-is_at_word-3.false)
    (first (led _ _ _ refl ∙ sym c.is_at_word-4.ensures ∙ c.if-is_at_word-4.true)
    (upon c.take_word-then-is_at_word-4.ensures (so c.in_ok-names-2.ensures (λ ns q keyword p. rw (p.place, q) refl))))))

pub returns : goal.returns
returns c = second (led _ _ _ refl ∙ sym c.is_at_word.ensures ∙ c.if-is_at_word.false)
    (second (led _ _ _ refl ∙ sym c.is_at_word-2.ensures ∙ c.if-is_at_word-2.false)
    (second (led _ _ _ refl ∙ sym c.is_at_word-3.ensures ∙ c.if-is_at_word-3.false)
    (second (led _ _ _ refl ∙ sym c.is_at_word-4.ensures ∙ c.if-is_at_word-4.false) (so c.pass_named_action.ensures (λ tree p. refl)))))
