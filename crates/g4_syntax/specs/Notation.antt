-- The notation in which the grammar of grammar texts is written: terminals, and expressions of them.
use Rattle.std.specs.Prelude.{ℕ, List, Bool, ◌&&◌, ◌||◌, ◌==◌, bytes_eq}
use Rattle.g4_base.specs.declared.place.Place.{Place}
use Rattle.g4_grammar_tokens.specs.declared.token.Kind.{Kind}
use Rattle.g4_grammar_tokens.specs.declared.token.Kind.TheVariants as kinds

infixr 40 ◌▸◌
infixr 30 ◌∣◌
-- a token of a grammar text: its kind, its place and its bytes
pub record Spelled : Type 0 where
  pub kind : Kind
  pub place : Place
  pub bytes : List ℕ

-- each kind of token has a number of its own
abbrev pub number_of : Kind → ℕ
number_of kinds.Lower = 0
number_of kinds.Upper = 1
number_of kinds.Literal = 2
number_of kinds.Set = 3
number_of kinds.Arguments = 4
number_of kinds.Action = 5
number_of kinds.Number = 6
number_of kinds.LeftBrace = 7
number_of kinds.RightBrace = 8
number_of kinds.Colon = 9
number_of kinds.DoubleColon = 10
number_of kinds.Semicolon = 11
number_of kinds.Bar = 12
number_of kinds.LeftParenthesis = 13
number_of kinds.RightParenthesis = 14
number_of kinds.Question = 15
number_of kinds.Star = 16
number_of kinds.Plus = 17
number_of kinds.PlusEquals = 18
number_of kinds.Dot = 19
number_of kinds.DoubleDot = 20
number_of kinds.Tilde = 21
number_of kinds.Equals = 22
number_of kinds.Hash = 23
number_of kinds.Arrow = 24
number_of kinds.Comma = 25
number_of kinds.At = 26
number_of kinds.Less = 27
number_of kinds.Greater = 28
number_of kinds.Stray = 29

-- whether the kinds are the same
abbrev pub is_kind : Kind → Kind → Bool
is_kind kind other = number_of kind == number_of other

-- a terminal: any token of a kind, a lower-case name with this spelling, or a name of either case; and those with which a
-- character set can begin
pub data Terminal : Type 0 where
  of_kind : Kind → Terminal
  keyword : List ℕ → Terminal
  a_name : Terminal
  -- a character set in brackets
  a_set : Terminal
  -- a literal of a lexer rule, which can begin a range
  characters : Terminal
  -- a literal under `~` in a lexer rule, which is a character or begins a range
  excluded : Terminal

-- whether the token is what the terminal asks for
abbrev pub fits : Terminal → Spelled → Bool
fits (of_kind kind) token = is_kind kind token.kind
fits (keyword spelling) token = is_kind kinds.Lower token.kind && bytes_eq token.bytes spelling
fits a_name token = is_kind kinds.Lower token.kind || is_kind kinds.Upper token.kind
fits a_set token = is_kind kinds.Set token.kind
fits characters token = is_kind kinds.Literal token.kind
fits excluded token = is_kind kinds.Literal token.kind

-- the parts of a grammar text that can be nested in themselves
pub data Nonterminal : Type 0 where
  -- an element of a parser rule
  element : Nonterminal
  -- what follows `~` in a parser rule
  token_set : Nonterminal
  -- an element of a lexer rule
  lexer_element : Nonterminal
  -- what follows `~` in a lexer rule
  character_set : Nonterminal
  -- what follows a name in the braces of `tokens` or `channels`
  more_names : Nonterminal

-- an expression of the extended Backus-Naur form
pub data Expression : Type 0 where
  one : Terminal → Expression
  ◌▸◌ : Expression → Expression → Expression
  ◌∣◌ : Expression → Expression → Expression
  optional : Expression → Expression
  repeated : Expression → Expression
  part : Nonterminal → Expression

-- a token of this kind
abbrev pub sign : Kind → Expression
sign kind = one (of_kind kind)

-- the lower-case name with this spelling
abbrev pub word : List ℕ → Expression
word spelling = one (keyword spelling)

-- a name of either case
abbrev pub name : Expression
name = one a_name

-- once or more, with commas between
abbrev pub with_commas : Expression → Expression
with_commas item = item ▸ repeated (sign kinds.Comma ▸ item)

-- once or more, with bars between
abbrev pub with_bars : Expression → Expression
with_bars item = item ▸ repeated (sign kinds.Bar ▸ item)
