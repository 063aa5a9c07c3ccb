use Rattle.std.proofs.Common.{◌≡◌, drop}
use Rattle.g4_grammar_tokens.specs.Nesting.{quote_end}
use Rattle.g4_grammar_tokens.proofs.Quotes.{quote_end_from}
use Rattle.g4_grammar_tokens.proofs.quote.quote_end.Given as goal

abbrev pub invariant-loop-at : goal.invariant-loop-at
invariant-loop-at l = quote_end_from l.quote l.escaped l.at (drop l.at l.text) ≡ quote_end l.quote l.text
