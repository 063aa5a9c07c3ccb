use Rattle.std.proofs.Common.{refl, sym, ◌∙◌, ap}
use Rattle.g4_source.specs.declared.prequel.OptionValue.TheVariants as values
use Rattle.g4_cursor.proofs.Moving.{so, first, second, led}
use Rattle.g4_cursor.proofs.options.value.Goals as goal

pub returns-then-is_at_name : goal.returns-then-is_at_name
returns-then-is_at_name c = first (led _ _ _ refl ∙ sym c.is_at_name.ensures ∙ c.if-is_at_name.true)
    (so c.in_ok-names.ensures (λ tree is. ap values.Names is))

pub returns-then-is_at : goal.returns-then-is_at
returns-then-is_at c = second (led _ _ _ refl ∙ sym c.is_at_name.ensures ∙ c.if-is_at_name.false)
    (first (sym c.is_at.ensures ∙ c.if-is_at.true) (so c.in_ok-literal.ensures (λ tree is. ap values.Literal is)))

pub returns-then-is_at-2 : goal.returns-then-is_at-2
returns-then-is_at-2 c = second (led _ _ _ refl ∙ sym c.is_at_name.ensures ∙ c.if-is_at_name.false)
    (second (sym c.is_at.ensures ∙ c.if-is_at.false)
    (first (sym c.is_at-2.ensures ∙ c.if-is_at-2.true) (so c.in_ok-number.ensures (λ tree is. ap values.Number is))))

pub returns-then-is_at-3 : goal.returns-then-is_at-3
returns-then-is_at-3 c = second (led _ _ _ refl ∙ sym c.is_at_name.ensures ∙ c.if-is_at_name.false)
    (second (sym c.is_at.ensures ∙ c.if-is_at.false)
    (second (sym c.is_at-2.ensures ∙ c.if-is_at-2.false)
    (first (sym c.is_at-3.ensures ∙ c.if-is_at-3.true) (so c.in_ok-action.ensures (λ tree is. ap values.Action is)))))

pub returns : goal.returns
returns c = second (led _ _ _ refl ∙ sym c.is_at_name.ensures ∙ c.if-is_at_name.false)
    (second (sym c.is_at.ensures ∙ c.if-is_at.false)
    (second (sym c.is_at-2.ensures ∙ c.if-is_at-2.false)
    (second (sym c.is_at-3.ensures ∙ c.if-is_at-3.false) (so c.take.ensures (λ tree is. refl)))))
