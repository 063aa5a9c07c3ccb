use Rattle.std.proofs.Common.{rules}
use Rattle.g4_grammar_tokens.proofs.Found.{known_piece}
use Rattle.g4_grammar_tokens.proofs.piece.slash_piece.Goals as goal

pub returns-then-begins-clause-value : goal.returns-then-begins-clause-value
returns-then-begins-clause-value c = known_piece _ _ _ (search rules)

pub returns-clause-value : goal.returns-clause-value
returns-clause-value c = known_piece _ _ _ (search rules)
