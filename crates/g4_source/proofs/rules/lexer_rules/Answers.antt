use Rattle.std.proofs.Common.{◌+◌, take, refl, sym, ap, ◌∙◌}
use Rattle.std.specs.Borrow.{Bor}
use Rattle.g4_source.specs.declared.rule.LexerRule.{LexerRule}
use Rattle.g4_source.specs.Rules.{lexer_rule}
use Rattle.g4_source.specs.declared.rules.RuleView.{RuleView}
use Rattle.g4_source.specs.Views.{rule_view}
use Rattle.g4_source.proofs.Lists.{pushed, picks_more, picks_same, picks-map}
use Rattle.g4_source.proofs.rules.lexer_rules.Goals.{in-Lexer+in_ok-push-in-Lexer, in-Parser}
use Rattle.g4_source.proofs.rules.lexer_rules.Goals as goal

pub loop-rule-preserved : goal.loop-rule-preserved
loop-rule-preserved c =
    let picked = λ (x : RuleView). lexer_rule (rule_view x) in
    let before = c.loop-rule.invariant ∙ picks-map lexer_rule rule_view (take c.loop-rule.rule-index c.args.rules.now) in
    let after = picks-map lexer_rule rule_view (take (c.loop-rule.rule-index + 1) c.args.rules.now) in
    elim c.match-rule.branch [
      | in-Lexer+in_ok-push-in-Lexer w ↦
          rw w.found-is
          (picks_more picked c.args.rules.now c.loop-rule.rule-index c.rule-item.result _ c.loop-rule-test.true c.rule-item.is before
          w.in-Lexer.rule.now _ (ap picked w.in-Lexer.is)
          (pushed (λ (r : Bor (LexerRule)). r.now) w.in-Lexer.rule.now c.loop-rule.found.items _ w.in_ok-push-in-Lexer.ensures.items refl)
          ∙ sym after)
      | in-Parser w ↦ rw w.found-is (picks_same picked c.args.rules.now c.loop-rule.rule-index c.rule-item.result _ c.loop-rule-test.true
          c.rule-item.is before (ap picked w.in-Parser.is) ∙ sym after)
    ]
