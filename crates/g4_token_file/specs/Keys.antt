-- The entries of a table by what they give a number.
use Rattle.std.specs.Prelude.{ℕ, List, [], ◌∷◌, Option, Some, None, Bool, false, max, if◌then◌else◌}
use Rattle.std.specs.Str.{bytes_eq}
use Rattle.g4_token_file.specs.declared.entry.TokenKey.{TokenKey}
use Rattle.g4_token_file.specs.declared.entry.TokenKey.TheVariants.{Name, Literal}
use Rattle.g4_token_file.specs.declared.entry.TokenEntry.{TokenEntry}

-- the two keys are one: literals compare by the characters that they represent
abbrev pub is_key : TokenKey → TokenKey → Bool
is_key (Name a) (Name b) = bytes_eq a b
is_key (Name a) (Literal b) = false
is_key (Literal a) (Name b) = false
is_key (Literal a) (Literal b) = bytes_eq a b

-- the number that the entries give the key
abbrev pub number_of : List TokenEntry → TokenKey → Option ℕ
number_of [] key = None
number_of (entry ∷ table) key = if is_key entry.key key then Some entry.number else number_of table key

-- the greatest number of the entries: 0 of none
abbrev pub greatest_number : List TokenEntry → ℕ
greatest_number [] = 0
greatest_number (entry ∷ table) = max entry.number (greatest_number table)
