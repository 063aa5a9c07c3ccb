-- The tokens of a predicate's text.
use Rattle.std.specs.Prelude.{ℕ, ◌+◌, ◌-◌, ◌<◌, ◌≤◌, Bool, List, [], ◌∷◌, Option, Some, None, take, drop, ◌&&◌, ◌||◌, ◌==◌, nat_le, if◌then◌else◌, encode_utf8_all}
use Rattle.std.specs.List.{prefix_len}
use Rattle.unicode.specs.Binary.{is_alphabetic}
use Rattle.g4_chars.specs.declared.escape.Context.TheVariants as contexts
use Rattle.g4_grammar_tokens.specs.Characters.{begins, is_name_part}
use Rattle.g4_grammar_tokens.specs.Enclosed.{Encloses}
use Rattle.g4_grammar_tokens.specs.Spelling.{literal_spelling}
use Rattle.g4_preds.specs.declared.piece.Piece.{Piece}
use Rattle.g4_preds.specs.declared.piece.Piece.TheVariants.{Blank, Formed}
use Rattle.g4_preds.specs.declared.token.Token.{Token}
use Rattle.g4_preds.specs.declared.token.Token.TheVariants.{Name, Digit, Literal, LeftParenthesis, RightParenthesis, Exclamation, DoubleAmpersand, DoubleBar, DoubleEquals}

-- a space, tab or newline
abbrev pub is_blank : ℕ → Bool
is_blank c = (c == 32 || c == 9) || c == 10

-- a digit from 1 to 8
abbrev pub is_one_to_eight : ℕ → Bool
is_one_to_eight c = nat_le 49 c && nat_le c 56

-- the name that begins with the letter, as long as it goes
abbrev pub name_piece : ℕ → List ℕ → Piece
name_piece letter after =
    let more = prefix_len is_name_part after in
    Formed (Name (encode_utf8_all (letter ∷ take more after))) more

-- `||`, `&&` or `==`, decided by the character that is there twice
abbrev pub double_sign : ℕ → Option Piece
double_sign c =
    if c == 124 then Some (Formed DoubleBar 1)
    else (if c == 38 then Some (Formed DoubleAmpersand 1)
    else (if c == 61 then Some (Formed DoubleEquals 1) else None))

-- the sign that begins with the character, given what follows it
abbrev pub sign : ℕ → List ℕ → Option Piece
sign c after =
    if c == 40 then Some (Formed LeftParenthesis 0)
    else (if c == 41 then Some (Formed RightParenthesis 0)
    else (if c == 33 then Some (Formed Exclamation 0)
    else (if begins c after then double_sign c else None)))

-- what begins with a character: a piece that is known at once, if any, or a literal, if it ends
pub data Opening : Type 0 where
  known : Option Piece → Opening
  a_literal : Opening

-- what begins with the character, given what follows it
abbrev pub opening : ℕ → List ℕ → Opening
opening c after =
    if is_blank c then known (Some Blank)
    else (if is_alphabetic c then known (Some (name_piece c after))
    else (if is_one_to_eight c then known (Some (Formed (Digit (c - 48)) 0))
    else (if c == 39 then a_literal else known (sign c after))))

-- what begins so is this piece: a literal has a character or more between its quotes, on one line
pub data IsOpened (c : ℕ) (after : List ℕ) : Opening → Piece → Type 0 where
  at_once : (piece : Piece) → IsOpened c after (known (Some piece)) piece
  with_end : (more : ℕ) → Encloses contexts.Literal 39 after more → 1 < more
      → IsOpened c after a_literal (Formed (Literal (encode_utf8_all (literal_spelling (c ∷ take more after)))) more)

-- the text begins with this piece
abbrev pub IsPiece : List ℕ → Piece → Type 0
IsPiece [] piece = ⊥
IsPiece (c ∷ after) piece = IsOpened c after (opening c after) piece

-- the text begins with this literal
abbrev pub IsLiteralPiece : List ℕ → Piece → Type 0
IsLiteralPiece [] piece = ⊥
IsLiteralPiece (c ∷ after) piece = IsOpened c after a_literal piece

-- the text is cut into blanks and these tokens
pub data AreTokens : List ℕ → List Token → Type 0 where
  at_end : AreTokens [] []
  past_blank : (c : ℕ) (cs : List ℕ) (tokens : List Token) → IsPiece (c ∷ cs) Blank → AreTokens cs tokens → AreTokens (c ∷ cs) tokens
  with_token : (c more : ℕ) (cs : List ℕ) (token : Token) (tokens : List Token) → IsPiece (c ∷ cs) (Formed token more)
      → AreTokens (drop more cs) tokens →
      AreTokens (c ∷ cs) (token ∷ tokens)

-- the piece has at most this many characters
abbrev pub IsWithin : ℕ → Piece → Type 0
IsWithin most Blank = 1 ≤ most
IsWithin most (Formed token more) = 1 + more ≤ most
