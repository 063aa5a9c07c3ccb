use Rattle.std.proofs.Common.{refl, sym, ◌∙◌}
use Rattle.g4_cursor.proofs.Moving.{so, upon, left_out, there, led}
use Rattle.g4_productions.proofs.excluded.add_characters.Goals as goal

pub returns-then-not-is_at : goal.returns-then-not-is_at
returns-then-not-is_at c = upon c.in_ok-first.ensures
    (left_out _ (led _ _ _ refl ∙ sym c.is_at.ensures ∙ c.if-not-is_at.true) (λ a p. rw (← p) c.in_ok-push.ensures.items))

pub returns : goal.returns
returns c = upon c.in_ok-first.ensures (there (led _ _ _ refl ∙ sym c.is_at.ensures ∙ c.if-not-is_at.false)
    (upon c.take.ensures (so c.in_ok-last.ensures (λ last q dots r a p. rw (← p, ← q) c.in_ok-push-2.ensures.items))))
