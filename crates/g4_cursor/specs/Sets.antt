-- Which character sets of a grammar text are bad: sets, ranges, and literals under `~` in lexer rules.
use Rattle.std.specs.Prelude.{◌≡◌, ◌≤◌, ◌-◌, ◌⊎◌, ◌||◌, nat_lt, ℕ, List, [], ◌∷◌, Bool, true, false, if◌then◌else◌, Option, Some, None, is_none, length, take, drop, slice_get}
use Rattle.std.specs.Str.{chars}
use Rattle.g4_chars.specs.SetText.{IsFault}
use Rattle.g4_chars.specs.declared.set_text.SetFault.TheVariants.{BadEscape, BadSet}
use Rattle.g4_grammar_tokens.specs.Spelling.{literal_spelling}
use Rattle.g4_grammar_tokens.specs.declared.token.Kind.{Kind}
use Rattle.g4_grammar_tokens.specs.declared.token.Kind.TheVariants as kinds
use Rattle.g4_syntax.specs.Notation.{Spelled, is_kind, Terminal, of_kind, keyword, a_name, a_set, characters, excluded, Expression}
use Rattle.g4_syntax.specs.Trees.{Comes}

-- the characters between the brackets of a set
abbrev pub content : List ℕ → List ℕ
content text = drop 1 (take (length text - 1) text)

-- a set with this content is bad: it has no character, has a range that runs backward or names no property that is known, or
-- has a bad escape
abbrev pub IsBadContent : List ℕ → Type 0
IsBadContent text = IsFault text BadSet ⊎ IsFault text BadEscape

-- the bytes of the token, if there is one and it is of this kind
abbrev pub bytes_if : Kind → Option Spelled → Option (List ℕ)
bytes_if kind None = None
bytes_if kind (Some token) = if is_kind kind token.kind then Some token.bytes else None

-- the bytes of the token at this index, if it is of this kind
abbrev pub bytes_at : ℕ → Kind → List Spelled → Option (List ℕ)
bytes_at at kind tokens = bytes_if kind (slice_get tokens at)

-- the set with these bytes is bad
abbrev pub IsBadSet : Option (List ℕ) → Type 0
IsBadSet None = ⊥
IsBadSet (Some bytes) = IsBadContent (content (chars bytes))

-- the one of some characters, if there is just one
abbrev pub lone : List ℕ → Option ℕ
lone [] = None
lone (c ∷ []) = Some c
lone (c ∷ _ ∷ _) = None

-- the character for which a literal with these bytes stands, if it is just one
abbrev pub character_of : List ℕ → Option ℕ
character_of bytes = lone (literal_spelling (chars bytes))

-- whether there is such a literal, and it has no character or several
abbrev pub is_no_character : Option (List ℕ) → Bool
is_no_character None = false
is_no_character (Some bytes) = is_none (character_of bytes)

-- whether the second of two characters is less than the first, or one of them is none
abbrev pub is_backward : Option ℕ → Option ℕ → Bool
is_backward None last = true
is_backward (Some first) None = true
is_backward (Some first) (Some last) = nat_lt last first

-- whether `..` and a literal, as far as they follow a literal with this character, make a bad range of it: it runs backward, or an
-- end of it is not one character
abbrev pub goes_on_bad : Option ℕ → Option (List ℕ) → Option (List ℕ) → Bool
goes_on_bad first None last = false
goes_on_bad first (Some dots) None = is_none first
goes_on_bad first (Some dots) (Some last) = is_backward first (character_of last)

-- whether a literal, `..` and a literal, as far as they are there, are a bad range: `'z'..'a'`, `'ab'..'c'`
abbrev pub is_bad_range : Option (List ℕ) → Option (List ℕ) → Option (List ℕ) → Bool
is_bad_range None dots last = false
is_bad_range (Some first) dots last = goes_on_bad (character_of first) dots last

-- the same of the first tokens of these
abbrev pub begins_bad_range : List Spelled → Bool
begins_bad_range tokens = is_bad_range (bytes_at 0 kinds.Literal tokens) (bytes_at 1 kinds.DoubleDot tokens)
    (bytes_at 2 kinds.Literal tokens)

-- if reading asks for the terminal here, a bad character set begins with the first of these tokens
abbrev pub BeginsBad : Terminal → List Spelled → Type 0
BeginsBad (of_kind kind) tokens = ⊥
BeginsBad (keyword spelling) tokens = ⊥
BeginsBad a_name tokens = ⊥
BeginsBad a_set tokens = IsBadSet (bytes_at 0 kinds.Set tokens)
BeginsBad characters tokens = begins_bad_range tokens ≡ true
BeginsBad excluded tokens = (is_no_character (bytes_at 0 kinds.Literal tokens) || begins_bad_range tokens) ≡ true

-- reading the expression from the tokens `from` on comes to no bad set
abbrev pub HasNoBad : Expression → List Spelled → Type 0
HasNoBad x from = (t : Terminal) (rest : List Spelled) → Comes t x from rest → ¬ (BeginsBad t rest)

-- the first bad set to which reading the expression comes begins with the first of the tokens `rest`
pub record HasFirstBad (x : Expression) (from rest : List Spelled) : Type 0 where
  pub terminal : Terminal
  pub comes : Comes terminal x from rest
  pub bad : BeginsBad terminal rest
  pub first : (t : Terminal) (other : List Spelled) → Comes t x from other → BeginsBad t other → length other ≤ length rest
