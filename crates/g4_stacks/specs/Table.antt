-- A list of contents, each at most once, with maps from each to its number.
use Rattle.std.specs.Prelude.{◌≡◌, ◌<◌, ◌^◌, ◌↔◌, ◌⊎◌, ℕ, List, [], ◌∷◌, ◌++◌, Bool, false, ◌&&◌, Option, Some, length, nat_eq, slice_get, Vec}
use Rattle.std.specs.Global.{Global}
use Rattle.std.specs.declared.cmp.Ordering.{Ordering}
use Rattle.std.specs.Ordering.{ordering_then, bool_cmp, nat_cmp}
use Rattle.std.specs.Cmp.Lexicographic.{slice_cmp}
use Rattle.std.specs.BTreeMap.{BTreeMap, get}
use Rattle.std.specs.Map.{lookup}
use Rattle.g4_stacks.specs.Graph.{Content}

-- a content as a key
abbrev pub Key : Type 0
Key = Bool × Bool × Vec (ℕ × ℕ) Global

abbrev pub content_by : Key → Content
content_by k = record { end = k.0; wild = k.1; tops = k.2.items }

-- the order of keys
abbrev pub pair_cmp : ℕ × ℕ → ℕ × ℕ → Ordering
pair_cmp x y = ordering_then (nat_cmp x.0 y.0) (nat_cmp x.1 y.1)

abbrev pub key_cmp : Key → Key → Ordering
key_cmp x y = ordering_then (ordering_then (bool_cmp x.0 y.0) (bool_cmp x.1 y.1)) (slice_cmp pair_cmp x.2.items y.2.items)

-- a state on the stacks of a node
abbrev pub one_of : ℕ → ℕ → Content
one_of t m = record { end = false; wild = false; tops = (t, m) ∷ [] }

-- one top and no mark
abbrev pub IsOne : Content → Type 0
IsOne c = (t : ℕ) × (m : ℕ) × (c ≡ one_of t m)

-- whether two pairs are equal
abbrev pub pair_eq : ℕ × ℕ → ℕ × ℕ → Bool
pair_eq x y = nat_eq x.0 y.0 && nat_eq x.1 y.1

-- numbers by pairs, in any order
abbrev pub Numbers : Type 0
Numbers = List ((ℕ × ℕ) × ℕ)

-- the number of a pair
abbrev pub number_at : Numbers → ℕ × ℕ → Option ℕ
number_at es q = lookup (pair_eq q) es

-- each content of the list that has one top and no mark has its number by that top
abbrev pub HasOnes : List Content → Numbers → Type 0
HasOnes contents ones = (t m n : ℕ) → (number_at ones (t, m) ≡ Some n) ↔ (slice_get contents n ≡ Some (one_of t m))

-- the map has the number of each other content of the list
abbrev pub IsIndexed : List Content → BTreeMap Key ℕ → Type 0
IsIndexed contents index = (q : Key) (n : ℕ) → (IsOne (content_by q) → ⊥)
    → (get key_cmp index q ≡ Some n) ↔ (slice_get contents n ≡ Some (content_by q))

pub record IsTable (contents : List Content) (ones : Numbers) (index : BTreeMap Key ℕ) : Type 0 where
  pub has_ones : HasOnes contents ones
  pub indexed : IsIndexed contents index
  pub small : length contents < 2 ^ 32

-- no place has the content
abbrev pub IsAbsent : List Content → Content → Type 0
IsAbsent contents c = (n : ℕ) → slice_get contents n ≡ Some c → ⊥

-- the content was there, or it is at the new end
abbrev pub IsAdded : List Content → Content → List Content → Type 0
IsAdded old c new = (new ≡ old) ⊎ (IsAbsent old c × (new ≡ old ++ c ∷ []))
