-- One column for each class, in the order of the least symbols of the classes.
use Rattle.std.specs.Prelude.{◌≡◌, ◌<◌, ◌↔◌, ℕ, List, Option, Some, None, length, slice_index}
use Rattle.g4_net.specs.Network.{ParserNetwork}
use Rattle.g4_classes.specs.Classes.{IsSymbol, AreAlike, IsClassOf}
use Rattle.g4_classes.specs.Indices.{index_of}

-- what a list by index has for a symbol, and 0 for any other number
abbrev pub column_by : List ℕ → Option ℕ → ℕ
column_by columns None = 0
column_by columns (Some i) = slice_index columns i

abbrev pub column_in : List ℕ → ℕ → ℕ
column_in columns a = column_by columns (index_of a)

-- So many columns: two symbols have one where no edge distinguishes them, and else they are in the order of their classes.
pub record AreColumnsOf (net : ParserNetwork) (columns : ℕ → ℕ) (count : ℕ) : Type 0 where
  pub same : (a b : ℕ) → IsSymbol a → IsSymbol b → (columns a ≡ columns b) ↔ AreAlike net a b
  pub order : (a b c d : ℕ) → IsSymbol a → IsSymbol b → IsClassOf net a c → IsClassOf net b d → c < d → columns a < columns b
  pub within : (a : ℕ) → IsSymbol a → columns a < count
  pub each : (column : ℕ) → column < count → (a : ℕ) × IsSymbol a × (columns a ≡ column)

-- the ranks of the least members, for the members before the end
pub record AreRanks (end : ℕ) (least ranks : List ℕ) (count : ℕ) : Type 0 where
  pub length_is : length ranks ≡ end
  pub same : (i j : ℕ) → i < end → j < end → (slice_index ranks i ≡ slice_index ranks j) ↔ (slice_index least i ≡ slice_index least j)
  pub order : (i j : ℕ) → i < end → j < end → slice_index least i < slice_index least j → slice_index ranks i < slice_index ranks j
  pub within : (i : ℕ) → i < end → slice_index ranks i < count
  pub each : (rank : ℕ) → rank < count → (i : ℕ) × (i < end) × (slice_index ranks i ≡ rank)
