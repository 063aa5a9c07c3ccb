use Rattle.g4_lexer_rules.proofs.Symbols.{symbols_more}
use Rattle.g4_lexer_rules.proofs.numbers.symbols_of.Goals as goal

pub loop-token-preserved : goal.loop-token-preserved
loop-token-preserved c =
    symbols_more c.args.types.now c.loop-token.token-index c.token-item.result c.as_str.result.now c.loop-token.symbols c.add.new.self
    c.loop-token-test.true c.token-item.is c.as_str.ensures c.loop-token.invariant c.in_ok-add.ensures.added
