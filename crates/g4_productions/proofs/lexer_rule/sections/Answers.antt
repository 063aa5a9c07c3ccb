use Rattle.std.proofs.Common.{refl, sym, ◌∙◌}
use Rattle.g4_cursor.proofs.Moving.{led}
use Rattle.g4_cursor.proofs.Turning.{start_list, list_turn, list_end, fewer}
use Rattle.g4_productions.specs.Rules.{sections_of}
use Rattle.g4_productions.proofs.lexer_rule.sections.Goals as goal

pub loop-cursor-init : goal.loop-cursor-init
loop-cursor-init c = start_list

pub loop-cursor-preserved : goal.loop-cursor-preserved
loop-cursor-preserved c = list_turn sections_of c.loop-cursor.invariant
    (led _ _ _ refl ∙ sym c.is_at_word.ensures ∙ c.loop-cursor-test.true) c.in_ok-section.ensures (λ a rest p. rw p refl)
    c.in_ok-push.ensures.items

pub loop-cursor-smaller : goal.loop-cursor-smaller
loop-cursor-smaller c = fewer (led _ _ _ refl ∙ sym c.is_at_word.ensures ∙ c.loop-cursor-test.true) c.in_ok-section.ensures

pub returns : goal.returns
returns c = list_end sections_of c.loop-cursor.invariant (led _ _ _ refl ∙ sym c.is_at_word.ensures ∙ c.loop-cursor-test.false) refl
    c.new-sections.ensures.items c.new.ensures
