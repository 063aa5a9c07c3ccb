-- The tokens of a grammar text.
use Rattle.std.specs.Prelude.{ℕ, ◌+◌, List, [], ◌∷◌, take, drop}
use Rattle.g4_base.specs.Place.{first_place}
use Rattle.g4_grammar_tokens.specs.Pieces.{IsPiece, opening}
use Rattle.g4_grammar_tokens.specs.Positions.{byte_count, position_past}
use Rattle.g4_grammar_tokens.specs.Statements.{Word, in_lexer_rule, names_braces, in_braces}
use Rattle.g4_grammar_tokens.specs.declared.piece.Piece.{Piece}
use Rattle.g4_grammar_tokens.specs.declared.piece.Piece.TheVariants.{Gap, Formed, Faulty}
use Rattle.g4_grammar_tokens.specs.declared.position.Position.{Position}
use Rattle.g4_grammar_tokens.specs.declared.token.Kind.{Kind}
use Rattle.g4_grammar_tokens.specs.declared.token.Token.{Token}

-- the piece that begins with the character, after these words and before these characters
abbrev pub PieceAt : List Word → ℕ → List ℕ → Piece → Type 0
PieceAt words c rest piece = IsPiece (opening (in_lexer_rule words) (names_braces words) (in_braces words) c rest) rest piece

-- the token of this kind that is these characters
abbrev pub token_at : Kind → Position → List ℕ → Token
token_at kind p characters = record { kind = kind; place = p.place; start = p.index; end = p.index + byte_count characters }

-- after these words and at this position, the text is cut into blanks, comments and these tokens
pub data AreTokens : List Word → Position → List ℕ → List Token → Type 0 where
  at_end : (words : List Word) (p : Position) → AreTokens words p [] []
  after_gap : (words : List Word) (p : Position) (c more : ℕ) (cs : List ℕ) (tokens : List Token) → PieceAt words c cs (Gap more) →
      AreTokens words (position_past p (c ∷ take more cs)) (drop more cs) tokens → AreTokens words p (c ∷ cs) tokens
  with_token : (words : List Word) (p : Position) (c more : ℕ) (kind : Kind) (cs : List ℕ) (tokens : List Token)
      → PieceAt words c cs (Formed kind more) →
      AreTokens (record { kind = kind; characters = c ∷ take more cs } ∷ words) (position_past p (c ∷ take more cs)) (drop more cs) tokens →
      AreTokens words p (c ∷ cs) (token_at kind p (c ∷ take more cs) ∷ tokens)

-- after these words and at this position, the first piece that is faulty opens at that position
pub data IsFaultyAt : List Word → Position → List ℕ → Position → Type 0 where
  right_here : (words : List Word) (p : Position) (c : ℕ) (cs : List ℕ) → PieceAt words c cs Faulty → IsFaultyAt words p (c ∷ cs) p
  past_gap : (words : List Word) (p at : Position) (c more : ℕ) (cs : List ℕ) → PieceAt words c cs (Gap more) →
      IsFaultyAt words (position_past p (c ∷ take more cs)) (drop more cs) at → IsFaultyAt words p (c ∷ cs) at
  past_token : (words : List Word) (p at : Position) (c more : ℕ) (kind : Kind) (cs : List ℕ) → PieceAt words c cs (Formed kind more) →
      IsFaultyAt (record { kind = kind; characters = c ∷ take more cs } ∷ words) (position_past p (c ∷ take more cs)) (drop more cs)
      at → IsFaultyAt words p (c ∷ cs) at

-- the start of a text with this many bytes before it
abbrev pub start_at : ℕ → Position
start_at index = record { place = first_place; index = index }
