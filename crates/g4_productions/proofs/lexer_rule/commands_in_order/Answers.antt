use Rattle.std.proofs.Common.{refl, sym, ◌∙◌}
use Rattle.g4_cursor.proofs.Turning.{start_list, sign_turn, sign_end, fewer_then}
use Rattle.g4_productions.specs.Rules.{commands_after}
use Rattle.g4_productions.proofs.lexer_rule.commands_in_order.Goals as goal

pub loop-cursor-init : goal.loop-cursor-init
loop-cursor-init c = start_list

pub loop-cursor-preserved : goal.loop-cursor-preserved
loop-cursor-preserved c = sign_turn commands_after c.loop-cursor.invariant (sym c.is_at.ensures ∙ c.loop-cursor-test.true)
    c.take.ensures c.in_ok-command.ensures (λ a b rest p. rw p refl) c.in_ok-push.ensures.items

pub loop-cursor-smaller : goal.loop-cursor-smaller
loop-cursor-smaller c = fewer_then (sym c.is_at.ensures ∙ c.loop-cursor-test.true) c.take.ensures c.in_ok-command.ensures

pub returns : goal.returns
returns c = sign_end commands_after c.in_ok-first.ensures c.loop-cursor.invariant (sym c.is_at.ensures ∙ c.loop-cursor-test.false)
    refl c.in_ok-commands.ensures.items c.new.ensures (λ a b p. rw p refl)
