-- The pieces that are found.
use Rattle.std.proofs.Common.{◌≡◌, ℕ, ◌<◌, List, Some, None, drop, subst, sym, ◌∙◌, arith}
use Rattle.g4_chars.specs.declared.escape.Context.TheVariants.{Literal}
use Rattle.g4_grammar_tokens.specs.Comments.{comment_end}
use Rattle.g4_grammar_tokens.specs.Enclosed.{Encloses}
use Rattle.g4_grammar_tokens.specs.Pieces.{Opening, decided, EndsComment, ends, IsEnd, literal, IsPiece, at_once}
use Rattle.g4_grammar_tokens.specs.declared.piece.Piece.{Piece}
use Rattle.g4_grammar_tokens.proofs.Ends.{one_enclosed}

-- a piece that its opening gives
pub known_piece : (opening : Opening) (rest : List ℕ) (piece : Piece) → opening ≡ decided piece → IsPiece opening rest piece
known_piece opening rest piece is = subst (λ (o : Opening). IsPiece o rest piece) (sym is) (at_once piece rest)

none_is : (n : ℕ) → None ≡ Some n → ⊥
none_is n is = cc

-- a comment that nothing ends
pub no_comment : (rest : List ℕ) (more : ℕ) → comment_end (drop 1 rest) ≡ None → EndsComment rest more → ⊥
no_comment rest _ none (ends taken is) = none_is taken (sym none ∙ is)

-- a literal with nothing between its quotes
pub no_literal : (rest : List ℕ) (taken more : ℕ) → Encloses Literal 39 rest taken → taken < 2 → IsEnd literal rest more → ⊥
no_literal rest taken more first few is =
    let same = one_enclosed Literal 39 taken more rest first is.0 in
    omega (arith, same, is.1)
