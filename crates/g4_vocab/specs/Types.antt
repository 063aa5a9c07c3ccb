-- Tables of token types: names and literals with their numbers, in the order in which they were given.
use Rattle.std.specs.Prelude.{ℕ, ◌+◌, ◌==◌, List, [], ◌∷◌, ◌++◌, Option, Some, None, Bool, filter, not, cond}
use Rattle.std.specs.Option.{is_some, unwrap_or}
use Rattle.std.specs.List.{list_any, range_with_len}
use Rattle.g4_source.specs.declared.atom.TokenReference.{TokenReference}
use Rattle.g4_source.specs.declared.atom.TokenReference.TheVariants as refs
use Rattle.g4_token_file.specs.Keys.{greatest_number, number_of}
use Rattle.g4_token_file.specs.declared.entry.TokenKey.{TokenKey}
use Rattle.g4_token_file.specs.declared.entry.TokenKey.TheVariants.{Name, Literal}
use Rattle.g4_token_file.specs.declared.entry.TokenEntry.{TokenEntry}

-- the type of the key, 0 where the table does not have it
abbrev pub type_of : List TokenEntry → TokenKey → ℕ
type_of table key = unwrap_or (number_of table key) 0

-- a name or a literal has this number
abbrev pub is_type : List TokenEntry → ℕ → Bool
is_type table number = list_any (λ entry. entry.number == number) table

-- the types of the table, least first: numbers that nothing has are none
abbrev pub all_types : List TokenEntry → List ℕ
all_types table = filter (is_type table) (range_with_len 1 (greatest_number table))

-- the numbers up to the greatest type that are none
abbrev pub gaps_of : List TokenEntry → List ℕ
gaps_of table = filter (λ number. not (is_type table number)) (range_with_len 1 (greatest_number table))

-- what a token is by: its name, or the characters of its literal
abbrev pub key_of : TokenReference → TokenKey
key_of (refs.Token name) = Name name
key_of (refs.Literal literal) = Literal literal.characters

-- how it is written
abbrev pub written_of : TokenReference → List ℕ
written_of (refs.Token name) = name
written_of (refs.Literal literal) = literal.written

-- What a type is given to: a name or a literal; and the characters of the literal that names the token of this name too.
pub record Wanted : Type 0 where
  pub token : TokenReference
  pub literal : Option (List ℕ)

-- the number of the literal, if there is one and the table has it
abbrev pub literal_number : List TokenEntry → Option (List ℕ) → Option ℕ
literal_number table None = None
literal_number table (Some characters) = number_of table (Literal characters)

-- the entry of a token of this type
abbrev pub entry_of : TokenReference → ℕ → TokenEntry
entry_of token number = record { key = key_of token; written = written_of token; number = number }

-- the entry of a new token: its number is that of the literal that names it too, else the next one after the greatest
abbrev pub next_entry : List TokenEntry → Wanted → TokenEntry
next_entry table wanted = entry_of wanted.token (unwrap_or (literal_number table wanted.literal) (greatest_number table + 1))

-- the table with the token, which keeps its number where it is there
abbrev pub with_key : List TokenEntry → Wanted → List TokenEntry
with_key table wanted = cond (is_some (number_of table (key_of wanted.token))) table (table ++ next_entry table wanted ∷ [])

-- the table with these tokens, one after another
abbrev pub with_keys : List TokenEntry → List Wanted → List TokenEntry
with_keys table [] = table
with_keys table (wanted ∷ more) = with_keys (with_key table wanted) more
