-- Lists of return states by number.
use Rattle.std.specs.Prelude.{◌≡◌, ℕ, ◌≤◌, ◌<◌, ◌+◌, ◌-◌, ◌^◌, ◌↔◌, List, [], ◌∷◌, ◌++◌, Some, length, slice_get, slice_index_or}
use Rattle.std.specs.declared.cmp.Ordering.{Ordering}
use Rattle.std.specs.Ordering.{ordering_then, nat_cmp}
use Rattle.std.specs.BTreeMap.{BTreeMap, get}

-- a state on the list with this number
abbrev pub pushed : List (List ℕ) → ℕ → ℕ → List ℕ
pushed lists state below = state ∷ slice_index_or lists below []

-- the lists of nodes, after some lists: each node is a state and the number of the list below it
abbrev pub lists_after : List (List ℕ) → List (ℕ × ℕ) → List (List ℕ)
lists_after lists [] = lists
lists_after lists (node ∷ nodes) = lists_after (lists ++ pushed lists node.0 node.1 ∷ []) nodes

-- the empty list, then the lists of the nodes
unfoldable pub lists_of : List (ℕ × ℕ) → List (List ℕ)
lists_of nodes = lists_after ([] ∷ []) nodes

-- no list has two numbers
abbrev pub IsDistinct : List (List ℕ) → Type 0
IsDistinct lists = (m n : ℕ) → m < length lists → n < length lists → slice_index_or lists m [] ≡ slice_index_or lists n [] → m ≡ n

-- the empty list has number 0
abbrev pub IsEmptyFirst : List (List ℕ) → Type 0
IsEmptyFirst lists = (0 < length lists) × (slice_index_or lists 0 [] ≡ [])

-- the new lists are the old ones and more
abbrev pub Grows : List (List ℕ) → List (List ℕ) → Type 0
Grows old new = (more : List (List ℕ)) × (new ≡ old ++ more)

-- the order of nodes
abbrev pub node_cmp : ℕ × ℕ → ℕ × ℕ → Ordering
node_cmp x y = ordering_then (nat_cmp x.0 y.0) (nat_cmp x.1 y.1)

-- The map has the number of each node's list, which is one more than the node's place; and each node is on a list with a lesser
-- number.
pub record IsStore (nodes : List (ℕ × ℕ)) (numbers : BTreeMap (ℕ × ℕ) ℕ) : Type 0 where
  pub numbered : (p : ℕ × ℕ) (n : ℕ) → (get node_cmp numbers p ≡ Some n) ↔ ((k : ℕ) × (n ≡ k + 1) × (slice_get nodes k ≡ Some p))
  pub below : (k : ℕ) (p : ℕ × ℕ) → slice_get nodes k ≡ Some p → p.1 ≤ k
  pub few : length nodes < 2 ^ 32 - 1
