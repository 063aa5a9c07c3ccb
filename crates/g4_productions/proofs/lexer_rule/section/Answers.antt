use Rattle.std.proofs.Common.{refl, sym, ◌∙◌}
use Rattle.g4_cursor.proofs.Moving.{so, upon}
use Rattle.g4_cursor.proofs.Turning.{start_list, list_turn, list_end, fewer}
use Rattle.g4_productions.specs.Rules.{lexer_rules}
use Rattle.g4_productions.proofs.lexer_rule.section.Goals as goal

pub loop-cursor-init : goal.loop-cursor-init
loop-cursor-init c = start_list

pub loop-cursor-preserved : goal.loop-cursor-preserved
loop-cursor-preserved c = list_turn lexer_rules c.loop-cursor.invariant (sym c.is_at_lexer_rule.ensures ∙ c.loop-cursor-test.true)
    c.in_ok-rule.ensures (λ a rest p. rw p refl) c.in_ok-push.ensures.items

pub loop-cursor-smaller : goal.loop-cursor-smaller
loop-cursor-smaller c = fewer (sym c.is_at_lexer_rule.ensures ∙ c.loop-cursor-test.true) c.in_ok-rule.ensures

pub returns : goal.returns
returns c = upon c.take_word.ensures (upon c.in_ok-name.ensures
    (upon c.take.ensures (so (list_end lexer_rules c.loop-cursor.invariant (sym c.is_at_lexer_rule.ensures ∙ c.loop-cursor-test.false)
    refl c.new-rules.ensures.items c.new-rules-2.ensures) (λ rs q semicolon r n p keyword h. rw (q, p) refl))))
