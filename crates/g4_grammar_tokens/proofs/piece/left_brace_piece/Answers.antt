use Rattle.std.proofs.Common.{rules}
use Rattle.g4_grammar_tokens.proofs.Found.{known_piece}
use Rattle.g4_grammar_tokens.proofs.piece.left_brace_piece.Goals as goal

pub returns-then-names_braces-clause-value : goal.returns-then-names_braces-clause-value
returns-then-names_braces-clause-value c = known_piece _ _ _ (search rules)
