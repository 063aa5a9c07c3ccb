use Rattle.std.proofs.Common.{refl, sym, ◌∙◌}
use Rattle.g4_cursor.proofs.Turning.{start_list, sign_turn, sign_end, fewer_then}
use Rattle.g4_productions.specs.Rules.{rule_lexer_alternatives_after}
use Rattle.g4_productions.proofs.lexer_rule.alternatives.Goals as goal

pub loop-cursor-init : goal.loop-cursor-init
loop-cursor-init c = start_list

pub loop-cursor-preserved : goal.loop-cursor-preserved
loop-cursor-preserved c = sign_turn rule_lexer_alternatives_after c.loop-cursor.invariant
    (sym c.is_at.ensures ∙ c.loop-cursor-test.true) c.take.ensures c.in_ok-alternative.ensures (λ a b rest p. rw p refl)
    c.in_ok-push.ensures.items

pub loop-cursor-smaller : goal.loop-cursor-smaller
loop-cursor-smaller c = fewer_then (sym c.is_at.ensures ∙ c.loop-cursor-test.true) c.take.ensures c.in_ok-alternative.ensures

pub returns : goal.returns
returns c = sign_end rule_lexer_alternatives_after c.in_ok-first.ensures c.loop-cursor.invariant
    (sym c.is_at.ensures ∙ c.loop-cursor-test.false) refl c.in_ok-alternatives.ensures.items c.new.ensures (λ a b p. rw p refl)
