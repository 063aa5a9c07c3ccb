use Rattle.std.proofs.Common.{sym}
use Rattle.g4_grammar_tokens.proofs.Quotes.{unclosed_line}
use Rattle.g4_grammar_tokens.proofs.quote.quoted_at.Goals as goal

pub returns-in-None-clause-known : goal.returns-in-None-clause-known
returns-in-None-clause-known c = unclosed_line c.args.quote c.args.text.now c.args.at c.line_length.result
    (sym c.in-None.ensures.value) c.line_length.ensures.value
