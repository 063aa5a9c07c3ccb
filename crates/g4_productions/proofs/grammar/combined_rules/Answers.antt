use Rattle.std.proofs.Common.{refl, sym, ◌∙◌, ◌≡◌, ◌∷◌, []}
use Rattle.g4_cursor.proofs.Moving.{so, first, second, or_here, or_there, or_nowhere}
use Rattle.g4_cursor.proofs.Turning.{start_list, list_turn, list_end, fewer}
use Rattle.g4_source.specs.declared.rule.Rule.{Rule}
use Rattle.g4_source.specs.declared.rule.Rule.TheVariants as rules
use Rattle.g4_syntax.specs.Notation.{◌∣◌, repeated}
use Rattle.g4_syntax.specs.Productions.{lexer_rule, parser_rule}
use Rattle.g4_syntax.specs.Trees.{Tree, left, right, end, more}
use Rattle.g4_productions.specs.Rules.{combined_rules}
use Rattle.g4_productions.proofs.Listing.{parser_rule_next}
use Rattle.g4_productions.proofs.grammar.combined_rules.Goals as goal

-- the rules are the first and the others
first_rule : {rule : Rule} (a : Tree (lexer_rule ∣ parser_rule)) (rest : Tree (repeated (lexer_rule ∣ parser_rule)))
    → combined_rules (more a end) ≡ rule ∷ [] → combined_rules (more a rest) ≡ rule ∷ combined_rules rest
first_rule (left r) rest is = cc
first_rule (right r) rest is = cc

pub loop-cursor-init : goal.loop-cursor-init
loop-cursor-init c = start_list

pub loop-cursor-preserved-in-Continue-branch-2 : goal.loop-cursor-preserved-in-Continue-branch-2
loop-cursor-preserved-in-Continue-branch-2 c =
    list_turn combined_rules c.loop-cursor.invariant (or_here _ _ _ (sym c.is_at_lexer_rule.ensures ∙ c.if-is_at_lexer_rule.true))
    (first {R = λ tree. combined_rules (more tree end) ≡ rules.Lexer c.in_ok-rule.rule ∷ []}
    (sym c.is_at_lexer_rule.ensures ∙ c.if-is_at_lexer_rule.true) (so c.in_ok-rule.ensures (λ tree p. rw p refl))) first_rule
    c.in_ok-push.ensures.items

pub loop-cursor-smaller-in-Continue-branch-2 : goal.loop-cursor-smaller-in-Continue-branch-2
loop-cursor-smaller-in-Continue-branch-2 c = fewer (sym c.is_at_lexer_rule.ensures ∙ c.if-is_at_lexer_rule.true) c.in_ok-rule.ensures

pub loop-cursor-preserved : goal.loop-cursor-preserved
loop-cursor-preserved c = list_turn combined_rules c.loop-cursor.invariant
    (or_there _ _ _ (parser_rule_next _ ∙ sym c.is_at.ensures ∙ c.if-is_at.true))
    (second {R = λ tree. combined_rules (more tree end) ≡ rules.Parser c.in_ok-rule-2.rule ∷ []}
    (sym c.is_at_lexer_rule.ensures ∙ c.if-is_at_lexer_rule.false) (so c.in_ok-rule-2.ensures (λ tree p. rw p refl))) first_rule
    c.in_ok-push-2.ensures.items

pub loop-cursor-smaller : goal.loop-cursor-smaller
loop-cursor-smaller c = fewer (parser_rule_next _ ∙ sym c.is_at.ensures ∙ c.if-is_at.true) c.in_ok-rule-2.ensures

pub returns-else-is_at : goal.returns-else-is_at
returns-else-is_at c = list_end combined_rules c.loop-cursor.invariant
    (or_nowhere _ _ _ (sym c.is_at_lexer_rule.ensures ∙ c.if-is_at_lexer_rule.false)
    (parser_rule_next _ ∙ sym c.is_at.ensures ∙ c.if-is_at.false)) refl c.new-rules.ensures.items c.new.ensures
