use Rattle.g4_grammar_tokens.specs.Pieces.{arguments, with_end, endless}
use Rattle.g4_grammar_tokens.proofs.piece.arguments_piece.Goals as goal

pub returns-in-Some-clause-value : goal.returns-in-Some-clause-value
returns-in-Some-clause-value c = with_end arguments c.args.rest.now c.in-Some.taken c.in-Some.ensures.end

pub returns-in-None-clause-value : goal.returns-in-None-clause-value
returns-in-None-clause-value c = endless arguments c.args.rest.now c.in-None.ensures.end
