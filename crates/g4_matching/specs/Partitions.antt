-- Numbers in parts, each of which has a class.
use Rattle.std.specs.Prelude.{◌≡◌, ℕ, ◌+◌, ◌-◌, ◌<◌, ◌↔◌, List, length, nat_le, slice_index_or}
use Rattle.std.specs.List.{count_by}
use Rattle.std.specs.List.Sorted.{IsStrictlyIncreasing}
use Rattle.g4_chars.specs.declared.range.Range.{Range}
use Rattle.g4_chars.specs.CharSets.{Has}
use Rattle.g4_matching.specs.declared.partition.Partition.{Partition}

-- The bounds between the parts, the class of each part, and how many classes there are. The bounds are where the parts after the
-- first begin.
pub record Classing : Type 0 where
  pub bounds : List ℕ
  pub classes : List ℕ
  pub count : ℕ

-- what the code has
abbrev pub classing : Partition → Classing
classing p = record { bounds = p.bounds.items; classes = p.classes.items; count = p.count }

-- the part of a number: how many of the bounds are not past it
abbrev pub part_in : List ℕ → ℕ → ℕ
part_in bounds a = count_by (λ b. nat_le b a) bounds

-- the class of the part of a number
abbrev pub class_by : List ℕ → List ℕ → ℕ → ℕ
class_by bounds classes a = slice_index_or classes (part_in bounds a) 0

-- the class of a number
abbrev pub class_in : Classing → ℕ → ℕ
class_in c a = class_by c.bounds c.classes a

-- the bounds rise, each part has a class, and there are so many classes
pub record IsPartition (c : Classing) : Type 0 where
  pub rising : IsStrictlyIncreasing c.bounds
  pub parts : length c.classes ≡ length c.bounds + 1
  pub within : (a : ℕ) → class_in c a < c.count

-- the classes of parts are 0 and 1 in turn
pub record AreAlternate (parts : ℕ) (classes : List ℕ) : Type 0 where
  pub count : length classes ≡ parts
  pub first : slice_index_or classes 0 0 ≡ 0
  pub next : (k : ℕ) → k + 1 < parts → slice_index_or classes (k + 1) 0 ≡ 1 - slice_index_or classes k 0
  pub within : (k : ℕ) → slice_index_or classes k 0 < 2

-- two numbers have one class where the set has both of them or neither
abbrev pub TellsSet : List Range → Classing → Type 0
TellsSet set c = (a b : ℕ) → (class_in c a ≡ class_in c b) ↔ (Has set a ↔ Has set b)
