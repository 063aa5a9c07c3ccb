use Rattle.g4_load.proofs.Built.{loaded_is}
use Rattle.g4_load.proofs.loading.with_lexer.Goals as goal

pub returns : goal.returns
returns c = λ table numbered.
    loaded_is table c.args.source c.args.numbered numbered c.in_ok-lexer.lexer.1 c.in_ok-lexer.lexer.0 c.in_ok-lexer.ensures.tables
    c.in_ok-lexer.ensures.rules
