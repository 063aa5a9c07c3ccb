use Rattle.std.proofs.Common.{refl, sym, ◌∙◌}
use Rattle.g4_cursor.proofs.Turning.{start_list, list_turn, list_end, fewer}
use Rattle.g4_productions.specs.Rules.{parser_rules}
use Rattle.g4_productions.proofs.Listing.{parser_rule_next}
use Rattle.g4_productions.proofs.grammar.parser_rules.Goals as goal

pub loop-cursor-init : goal.loop-cursor-init
loop-cursor-init c = start_list

pub loop-cursor-preserved : goal.loop-cursor-preserved
loop-cursor-preserved c = list_turn parser_rules c.loop-cursor.invariant
    (parser_rule_next _ ∙ sym c.is_at.ensures ∙ c.loop-cursor-test.true) c.in_ok-rule.ensures (λ a rest p. rw p refl)
    c.in_ok-push.ensures.items

pub loop-cursor-smaller : goal.loop-cursor-smaller
loop-cursor-smaller c = fewer (parser_rule_next _ ∙ sym c.is_at.ensures ∙ c.loop-cursor-test.true) c.in_ok-rule.ensures

pub returns : goal.returns
returns c = list_end parser_rules c.loop-cursor.invariant (parser_rule_next _ ∙ sym c.is_at.ensures ∙ c.loop-cursor-test.false) refl
    c.new-rules.ensures.items c.new.ensures
