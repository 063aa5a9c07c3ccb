-- The pieces of a grammar text: tokens, and what is between them.
use Rattle.std.specs.Prelude.{◌≡◌, ℕ, ◌+◌, ◌≤◌, Bool, List, Some, drop, ◌==◌, if◌then◌else◌}
use Rattle.std.specs.Char.{is_ascii_digit}
use Rattle.std.specs.List.{prefix_len}
use Rattle.unicode.specs.Binary.{is_alphabetic}
use Rattle.g4_chars.specs.declared.escape.Context.TheVariants as Context
use Rattle.g4_grammar_tokens.specs.Characters.{begins, is_blank, is_in_line, is_name_part, is_upper}
use Rattle.g4_grammar_tokens.specs.Comments.{comment_end}
use Rattle.g4_grammar_tokens.specs.Enclosed.{Encloses}
use Rattle.g4_grammar_tokens.specs.Nesting.{Nests}
use Rattle.g4_grammar_tokens.specs.declared.piece.Piece.{Piece}
use Rattle.g4_grammar_tokens.specs.declared.piece.Piece.TheVariants.{Gap, Formed, Faulty}
use Rattle.g4_grammar_tokens.specs.declared.token.Kind.{Kind}
use Rattle.g4_grammar_tokens.specs.declared.token.Kind.TheVariants.{Lower, Upper, Literal, Set, Arguments, Action, Number, LeftBrace, RightBrace, Colon, DoubleColon, Semicolon, Bar, LeftParenthesis, RightParenthesis, Question, Star, Plus, PlusEquals, Dot, DoubleDot, Tilde, Equals, Hash, Arrow, Comma, At, Less, Greater, Stray}

-- a piece that something closes
pub data Closing : Type 0 where
  comment : Closing
  literal : Closing
  set : Closing
  arguments : Closing
  action : Closing

-- what begins at a character: a piece that this one and those after it decide, or one that something must close
pub data Opening : Type 0 where
  decided : Piece → Opening
  up_to : Closing → Opening

-- a comment's `*/` ends this many characters after its first `/`
pub data EndsComment (rest : List ℕ) : ℕ → Type 0 where
  ends : (taken : ℕ) → comment_end (drop 1 rest) ≡ Some taken → EndsComment rest (taken + 1)

-- the piece ends this many characters after its first: between the quotes of a literal there is at least one
abbrev pub IsEnd : Closing → List ℕ → ℕ → Type 0
IsEnd comment rest more = EndsComment rest more
IsEnd literal rest more = Encloses Context.Literal 39 rest more × (2 ≤ more)
IsEnd set rest more = Encloses Context.Set 93 rest more
IsEnd arguments rest more = Nests 91 93 rest more
IsEnd action rest more = Nests 123 125 rest more

-- the piece with this many characters after its first
abbrev pub closed_piece : Closing → ℕ → Piece
closed_piece comment more = Gap more
closed_piece literal more = Formed Literal more
closed_piece set more = Formed Set more
closed_piece arguments more = Formed Arguments more
closed_piece action more = Formed Action more

-- the piece that begins so, given what follows its first character: it is faulty if nothing closes it
pub data IsPiece : Opening → List ℕ → Piece → Type 0 where
  at_once : (piece : Piece) (rest : List ℕ) → IsPiece (decided piece) rest piece
  with_end : (closing : Closing) (rest : List ℕ) (more : ℕ) → IsEnd closing rest more
      → IsPiece (up_to closing) rest (closed_piece closing more)
  endless : (closing : Closing) (rest : List ℕ) → ((more : ℕ) → IsEnd closing rest more → ⊥) → IsPiece (up_to closing) rest Faulty

-- a comment, or a stray `/`, decided by what follows the `/`
abbrev pub slash_opening : List ℕ → Opening
slash_opening rest =
    if begins 47 rest then decided (Gap (prefix_len is_in_line rest))
    else (if begins 42 rest then up_to comment else decided (Formed Stray 0))

-- a name that begins with the letter
abbrev pub name_piece : ℕ → List ℕ → Piece
name_piece letter rest = Formed (if is_upper letter then Upper else Lower) (prefix_len is_name_part rest)

-- one of `=`, `#`, `,`, `@`, `<` and `>`, or a stray character
abbrev pub comparison : ℕ → Kind
comparison c =
    if c == 61 then Equals
    else (if c == 35 then Hash
    else (if c == 44 then Comma
    else (if c == 64 then At
    else (if c == 60 then Less
    else (if c == 62 then Greater else Stray)))))

-- what a character is that is no part of a longer sign
abbrev pub lone_sign : ℕ → Kind
lone_sign c =
    if c == 59 then Semicolon
    else (if c == 124 then Bar
    else (if c == 40 then LeftParenthesis
    else (if c == 41 then RightParenthesis
    else (if c == 63 then Question
    else (if c == 42 then Star
    else (if c == 126 then Tilde else comparison c))))))

-- a sign, or a stray character, given what follows it: of two signs the longer
abbrev pub sign_piece : ℕ → List ℕ → Piece
sign_piece c rest =
    if c == 58 then (if begins 58 rest then Formed DoubleColon 1 else Formed Colon 0)
    else (if c == 43 then (if begins 61 rest then Formed PlusEquals 1 else Formed Plus 0)
    else (if c == 45 then (if begins 62 rest then Formed Arrow 1 else Formed Stray 0)
    else (if c == 46 then (if begins 46 rest then Formed DoubleDot 1 else Formed Dot 0)
    else Formed (lone_sign c) 0)))

-- a set or arguments
abbrev pub bracket_opening : Bool → Opening
bracket_opening sets = if sets then up_to set else up_to arguments

-- a left brace or an action
abbrev pub left_brace_opening : Bool → Opening
left_brace_opening names_braces = if names_braces then decided (Formed LeftBrace 0) else up_to action

-- a right brace, if a left one is open
abbrev pub right_brace_piece : Bool → Piece
right_brace_piece in_braces = if in_braces then Formed RightBrace 0 else Formed Stray 0

-- what begins with a character that is no letter, digit or blank
abbrev pub marked_opening : Bool → Bool → Bool → ℕ → List ℕ → Opening
marked_opening sets names_braces in_braces c rest =
    if c == 47 then slash_opening rest
    else (if c == 39 then up_to literal
    else (if c == 91 then bracket_opening sets
    else (if c == 123 then left_brace_opening names_braces
    else (if c == 125 then decided (right_brace_piece in_braces)
    else decided (sign_piece c rest)))))

-- what begins with the character, given whether a `[` begins a set, whether a `{` is a brace, whether a `}` is one, and what
-- follows the character
abbrev pub opening : Bool → Bool → Bool → ℕ → List ℕ → Opening
opening sets names_braces in_braces c rest =
    if is_blank c then decided (Gap 0)
    else (if is_alphabetic c then decided (name_piece c rest)
    else (if is_ascii_digit c then decided (Formed Number (prefix_len is_ascii_digit rest))
    else marked_opening sets names_braces in_braces c rest))

-- the piece has at most this many characters after its first
abbrev pub IsWithin : ℕ → Piece → Type 0
IsWithin most (Gap more) = more ≤ most
IsWithin most (Formed kind more) = more ≤ most
IsWithin most Faulty = Unit {0}
