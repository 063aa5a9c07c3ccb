use Rattle.std.proofs.Common.{refl, sym, ◌∙◌, ap, false}
use Rattle.g4_source.specs.Elements.{Element}
use Rattle.g4_source.specs.declared.atom.Atom.{Atom}
use Rattle.g4_cursor.proofs.Moving.{so, upon, left_out, there, led}
use Rattle.g4_source.proofs.Trees.{of_atom}
use Rattle.g4_productions.proofs.suffix.action.Goals as goal

pub returns-then-not-is_at : goal.returns-then-not-is_at
returns-then-not-is_at c = upon c.in_ok-name.ensures
    (left_out _ (led _ _ _ refl ∙ sym c.is_at.ensures ∙ c.if-not-is_at.true) (λ a p. ap (λ (e : Element Atom). (e, false)) (of_atom _)))

pub returns : goal.returns
returns c = upon c.in_ok-name.ensures (there (led _ _ _ refl ∙ sym c.is_at.ensures ∙ c.if-not-is_at.false)
    (upon c.take.ensures (so c.in_ok-right.ensures
    (λ options r question q a p. ap (λ (e : Element Atom). (e, c.in_ok-right.right)) (of_atom _) ∙ rw (r, p) refl))))
