use Rattle.std.proofs.Common.{rules}
use Rattle.g4_grammar_tokens.proofs.Found.{known_piece}
use Rattle.g4_grammar_tokens.proofs.piece.read_piece.Goals as goal

pub returns-then-is_blank-clause-value : goal.returns-then-is_blank-clause-value
returns-then-is_blank-clause-value c = known_piece _ _ _ (search rules)

pub returns-then-is_alphabetic-clause-value : goal.returns-then-is_alphabetic-clause-value
returns-then-is_alphabetic-clause-value c = known_piece _ _ _ (search rules)

pub returns-then-is_ascii_digit-clause-value : goal.returns-then-is_ascii_digit-clause-value
returns-then-is_ascii_digit-clause-value c = known_piece _ _ _ (search rules)
