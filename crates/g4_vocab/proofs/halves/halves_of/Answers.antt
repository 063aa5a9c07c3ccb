use Rattle.g4_vocab.proofs.Split.{parser_more, lexer_more, fragment_more}
use Rattle.g4_vocab.proofs.halves.halves_of.Goals as goal
use Rattle.g4_vocab.proofs.halves.halves_of.Goals.{in-Parser+in_ok-push-in-Parser, in-Lexer+then-not-lexer+in_ok-push-in-Lexer, in-Lexer+else-not-lexer}

pub loop-rule-preserved : goal.loop-rule-preserved
loop-rule-preserved c = elim c.match-rule.branch [
  | in-Parser+in_ok-push-in-Parser w ↦
      rw (w.parsers-is, w.lexers-is) (parser_more c.args.rules.now c.loop-rule.rule-index c.rule-item.result _ _ _ _
      c.loop-rule-test.true c.rule-item.is w.in_ok-push-in-Parser.ensures.items w.in-Parser.is c.loop-rule.invariant)
  | in-Lexer+then-not-lexer+in_ok-push-in-Lexer w ↦
      rw (w.parsers-is, w.lexers-is)
      (lexer_more c.args.rules.now c.loop-rule.rule-index c.rule-item.result _ _ _ _ c.loop-rule-test.true c.rule-item.is
      w.in_ok-push-in-Lexer.ensures.items w.in-Lexer.is w.if-not-lexer.true c.loop-rule.invariant)
  | in-Lexer+else-not-lexer w ↦
      rw (w.parsers-is, w.lexers-is)
      (fragment_more c.args.rules.now c.loop-rule.rule-index c.rule-item.result _ _ _ c.loop-rule-test.true c.rule-item.is
      w.in-Lexer.is w.if-not-lexer.false c.loop-rule.invariant)
]
