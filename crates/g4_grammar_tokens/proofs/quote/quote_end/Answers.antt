use Rattle.g4_grammar_tokens.proofs.Quotes.{steps_find}
use Rattle.g4_grammar_tokens.proofs.quote.quote_end.Goals as goal

pub loop-at-init : goal.loop-at-init
loop-at-init c = steps_find c.args.quote c.args.text.now
