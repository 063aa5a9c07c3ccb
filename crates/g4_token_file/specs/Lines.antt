-- The lines of a `.tokens` file that give a number.
use Rattle.std.specs.Prelude.{◌≡◌, ℕ, Bool, true, false, List, [], ◌∷◌, ◌++◌, Option, Some, None, length, ◌&&◌, ◌==◌, not, if◌then◌else◌}
use Rattle.std.specs.Char.{is_ascii_digit}
use Rattle.std.specs.List.{list_all}
use Rattle.std.specs.Str.{chars}
use Rattle.std.specs.Str.Parse.{digits_value}
use Rattle.g4_base.specs.declared.place.Place.{Place}
use Rattle.g4_grammar_tokens.specs.Answers.{HasTokens}
use Rattle.g4_grammar_tokens.specs.Spelling.{literal_spelling}
use Rattle.g4_grammar_tokens.specs.declared.token.Kind.{Kind}
use Rattle.g4_grammar_tokens.specs.declared.token.Kind.TheVariants as kinds
use Rattle.g4_grammar_tokens.specs.declared.token.Token.{Token}
use Rattle.g4_token_file.specs.declared.entry.TokenKey.{TokenKey}
use Rattle.g4_token_file.specs.declared.entry.TokenKey.TheVariants.{Name, Literal}
use Rattle.g4_token_file.specs.declared.entry.TokenEntry.{TokenEntry}

-- the text is one token of the grammar language, from its first byte to its last
pub record IsToken (kind : Kind) (text : List ℕ) : Type 0 where
  pub place : Place
  pub tokens : HasTokens text (record { kind = kind; place = place; start = 0; end = length text } ∷ [])

-- the text is this token name, or a literal for these characters
abbrev pub IsKey : List ℕ → TokenKey → Type 0
IsKey text (Name name) = IsToken kinds.Upper text × (name ≡ text)
IsKey text (Literal characters) = IsToken kinds.Literal text × (characters ≡ literal_spelling (chars text))

-- the text is a decimal number from 1, without a sign and without leading zeros
abbrev pub is_number : List ℕ → Bool
is_number [] = false
is_number (d ∷ ds) = not (d == 48) && list_all is_ascii_digit (d ∷ ds)

-- the line is NAME=n or 'lit'=n. Its last `=` is this one, since a number has none
pub record IsTokenLine (line : List ℕ) (entry : TokenEntry) : Type 0 where
  pub digits : List ℕ
  pub parts : line ≡ entry.written ++ 61 ∷ digits
  pub key_is : IsKey entry.written entry.key
  pub counted : is_number digits ≡ true
  pub number_is : entry.number ≡ digits_value 10 digits

-- the kind is that of token names
abbrev pub is_name : Kind → Bool
is_name kinds.Upper = true
is_name _ = false

-- the kind is that of literals
abbrev pub is_literal : Kind → Bool
is_literal kinds.Literal = true
is_literal _ = false

-- the kind of the token that is the whole of a text with this many bytes
abbrev pub whole_kind : List Token → ℕ → Option Kind
whole_kind [] size = None
whole_kind (token ∷ []) size = if token.start == 0 && token.end == size then Some token.kind else None
whole_kind (token ∷ other ∷ more) size = None
