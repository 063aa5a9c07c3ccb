use Rattle.g4_grammar_tokens.specs.Pieces.{set, with_end, endless}
use Rattle.g4_grammar_tokens.proofs.piece.set_piece.Goals as goal

pub returns-in-Some-clause-value : goal.returns-in-Some-clause-value
returns-in-Some-clause-value c = with_end set c.args.rest.now c.in-Some.taken c.in-Some.ensures.end

pub returns-in-None-clause-value : goal.returns-in-None-clause-value
returns-in-None-clause-value c = endless set c.args.rest.now c.in-None.ensures.end
