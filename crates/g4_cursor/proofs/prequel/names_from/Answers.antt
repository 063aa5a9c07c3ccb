use Rattle.std.proofs.Common.{arith, refl, sym, ◌∙◌, append-nil, ◌∷◌}
use Rattle.g4_cursor.proofs.Moving.{so, passed, upon, after, left_out, there, inside, led, part_next}
use Rattle.g4_cursor.proofs.Turning.{begun, fewer, one_item, no_more}
use Rattle.g4_syntax.specs.Notation.{sign, name, ◌▸◌}
use Rattle.g4_grammar_tokens.specs.declared.token.Kind.TheVariants as kinds
use Rattle.g4_cursor.specs.Prequels.{names_from}
use Rattle.g4_cursor.specs.Texts.{text_of}
use Rattle.g4_cursor.proofs.prequel.names_from.Goals as goal

pub loop-cursor-init : goal.loop-cursor-init
loop-cursor-init c = begun (λ tree. rw c.new-names.ensures.items refl)

pub loop-cursor-preserved : goal.loop-cursor-preserved
loop-cursor-preserved c = record {
  less = omega (arith, c.loop-cursor.invariant.less, no_more c.in_ok-name.ensures, no_more c.take.ensures);
  whole = λ value v rest. c.loop-cursor.invariant.whole value v
      (there (led _ _ _ refl ∙ sym c.is_at_name.ensures ∙ c.loop-cursor-test.true)
      (upon c.in_ok-name.ensures (there (part_next _ _ ∙ led _ _ _ refl ∙ sym c.is_at.ensures ∙ c.if-not-is_at.false)
      (inside (upon c.take.ensures (so rest (λ later is comma q n p. is
      ∙ sym (one_item _ _ (names_from later) (text_of n ∷ names_from later) c.in_ok-name.name (rw p refl)
      c.in_ok-push.ensures.items))))))));
}

pub loop-cursor-smaller : goal.loop-cursor-smaller
loop-cursor-smaller c = fewer {x = name ▸ sign kinds.Comma} (led _ _ _ refl ∙ sym c.is_at_name.ensures ∙ c.loop-cursor-test.true)
    (after c.in_ok-name.ensures (passed c.take.ensures))

pub returns-then-not-is_at : goal.returns-then-not-is_at
returns-then-not-is_at c = c.loop-cursor.invariant.whole _ _
    (there (led _ _ _ refl ∙ sym c.is_at_name.ensures ∙ c.loop-cursor-test.true)
    (upon c.in_ok-name.ensures (left_out _ (part_next _ _ ∙ led _ _ _ refl ∙ sym c.is_at.ensures ∙ c.if-not-is_at.true)
    (λ n p. c.new.ensures ∙ c.in_ok-push.ensures.items ∙ rw p refl))))

pub returns : goal.returns
returns c = c.loop-cursor.invariant.whole _ _
    (left_out _ (led _ _ _ refl ∙ sym c.is_at_name.ensures ∙ c.loop-cursor-test.false) (c.new-2.ensures ∙ sym (append-nil _)))
