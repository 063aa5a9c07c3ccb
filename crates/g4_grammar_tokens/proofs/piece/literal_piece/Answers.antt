use Rattle.std.proofs.Common.{arith}
use Rattle.g4_grammar_tokens.specs.Pieces.{literal, with_end, endless}
use Rattle.g4_grammar_tokens.proofs.Found.{no_literal}
use Rattle.g4_grammar_tokens.proofs.piece.literal_piece.Goals as goal

pub returns-then-taken-gt1-clause-value : goal.returns-then-taken-gt1-clause-value
returns-then-taken-gt1-clause-value c = with_end literal c.args.rest.now c.in-Some.taken (c.in-Some.ensures.end, omega arith)

pub returns-else-taken-gt1-clause-value : goal.returns-else-taken-gt1-clause-value
returns-else-taken-gt1-clause-value c = endless literal c.args.rest.now
    (λ more is. no_literal c.args.rest.now c.in-Some.taken more c.in-Some.ensures.end (omega arith) is)

pub returns-in-None-clause-value : goal.returns-in-None-clause-value
returns-in-None-clause-value c = endless literal c.args.rest.now (λ more is. c.in-None.ensures.end more is.0)
