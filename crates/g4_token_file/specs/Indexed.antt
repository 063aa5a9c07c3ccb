-- What is kept beside the entries of a table: the numbers by their keys.
use Rattle.std.specs.Prelude.{◌≡◌, ℕ, ◌≤◌, List, Option, Some}
use Rattle.std.specs.BTreeMap.{get_by, get_by_text}
use Rattle.std.specs.Cmp.Lexicographic.{slice_cmp}
use Rattle.std.specs.Ordering.{nat_cmp}
use Rattle.g4_tokens.specs.declared.symbol.TheConstants.{MOST_TYPES}
use Rattle.g4_token_file.specs.Keys.{greatest_number, number_of}
use Rattle.g4_token_file.specs.declared.entry.TokenKey.{TokenKey}
use Rattle.g4_token_file.specs.declared.entry.TokenKey.TheVariants.{Name, Literal}
use Rattle.g4_token_file.specs.declared.entry.TokenEntry.{TokenEntry}
use Rattle.g4_token_file.specs.declared.numbers.Numbers.{Numbers}

-- the number that these numbers have for a key
unfoldable pub numbered : Numbers → TokenKey → Option ℕ
numbered numbers (Name name) = get_by_text numbers.names name
numbered numbers (Literal characters) = get_by (λ k. slice_cmp nat_cmp characters k.items) numbers.literals

-- the numbers are those of the entries, and none is past the limit
pub record AreNumbersOf (entries : List TokenEntry) (numbers : Numbers) : Type 0 where
  pub same : (key : TokenKey) → numbered numbers key ≡ number_of entries key
  pub within : (key : TokenKey) (number : ℕ) → number_of entries key ≡ Some number → number ≤ MOST_TYPES

-- the same, and this is the greatest number, which is within the limit
pub record IsIndexed (entries : List TokenEntry) (numbers : Numbers) (greatest : ℕ) : Type 0 where
  pub indexed : AreNumbersOf entries numbers
  pub greatest_is : greatest ≡ greatest_number entries
  pub within : greatest ≤ MOST_TYPES
