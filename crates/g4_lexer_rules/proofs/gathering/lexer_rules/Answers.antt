use Rattle.std.proofs.Common.{◌++◌, ◌∷◌, [], List, sym, ap, ◌∙◌}
use Rattle.g4_source.specs.declared.rule.LexerRule.{LexerRule}
use Rattle.g4_lexer_rules.proofs.Gathered.{parser_more, lexer_more}
use Rattle.g4_lexer_rules.proofs.gathering.lexer_rules.Goals as goal
use Rattle.g4_lexer_rules.proofs.gathering.lexer_rules.Goals.{in-Parser, in-Lexer+in_ok-push-in-Lexer}

pub loop-rule-preserved : goal.loop-rule-preserved
loop-rule-preserved c = elim c.match-rule.branch [
  | in-Parser w ↦ rw w.found-is (c.loop-rule.invariant ∙ sym (parser_more c.loop-rule.yielded c.in-Some.rule _ w.in-Parser.is))
  | in-Lexer+in_ok-push-in-Lexer w ↦ rw w.found-is
      (w.in_ok-push-in-Lexer.ensures.items ∙ (ap (λ (xs : List LexerRule). xs ++ w.in-Lexer.rule ∷ []) c.loop-rule.invariant
      ∙ sym (lexer_more c.loop-rule.yielded c.in-Some.rule _ w.in-Lexer.is)))
]

pub loop-rule-preserved-after-rule : goal.loop-rule-preserved-after-rule
loop-rule-preserved-after-rule c = elim c.match-rule.branch [
  | in-Parser w ↦ rw w.found-is (c.loop-rule.invariant ∙ sym (parser_more c.loop-rule.yielded c.in-Some.rule _ w.in-Parser.is))
  | in-Lexer+in_ok-push-in-Lexer w ↦ rw w.found-is
      (w.in_ok-push-in-Lexer.ensures.items ∙ (ap (λ (xs : List LexerRule). xs ++ w.in-Lexer.rule ∷ []) c.loop-rule.invariant
      ∙ sym (lexer_more c.loop-rule.yielded c.in-Some.rule _ w.in-Lexer.is)))
]
