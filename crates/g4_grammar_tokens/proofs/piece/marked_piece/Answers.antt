use Rattle.std.proofs.Common.{rules}
use Rattle.g4_grammar_tokens.proofs.Found.{known_piece}
use Rattle.g4_grammar_tokens.proofs.piece.marked_piece.Goals as goal

pub returns-in-125-clause-value : goal.returns-in-125-clause-value
returns-in-125-clause-value c = known_piece _ _ _ (search rules)

pub returns-in_default-clause-value : goal.returns-in_default-clause-value
returns-in_default-clause-value c = known_piece _ _ _ (search rules)
