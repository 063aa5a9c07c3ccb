-- Distances of nodes to a root, and how a search along edges gives them.
use Rattle.std.specs.Prelude.{◌≡◌, ◌<◌, ◌≤◌, ◌+◌, ◌⊎◌, ℕ, suc, List, Contains, count_by, is_none, length, min, slice_index_or, Option, Some, None, IsSome}
use Rattle.g4_cycles.specs.Edges.{Graph, EdgeOf}

-- the distance that a node has, if it has one
abbrev pub distance_of : List (Option ℕ) → ℕ → Option ℕ
distance_of distances k = slice_index_or distances k None

-- one of the nodes, which has no distance
abbrev pub IsOpen : List (Option ℕ) → ℕ → Type 0
IsOpen distances k = (k < length distances) × (distance_of distances k ≡ None)

abbrev pub open_count : List (Option ℕ) → ℕ
open_count distances = count_by is_none distances

-- The open nodes among the wanted ones got this distance, and are listed after those that were listed before.
pub record AreMarked (Wanted : ℕ → Type 0) (distance : ℕ) (old : List (Option ℕ)) (listed : List ℕ) (new : List (Option ℕ))
    (found : List ℕ) : Type 0 where
  pub size : length new ≡ length old
  pub kept : (k m : ℕ) → distance_of old k ≡ Some m → distance_of new k ≡ Some m
  pub marked : (k : ℕ) → Wanted k → k < length old → IsSome (distance_of new k)
  pub fresh : (k m : ℕ) → distance_of old k ≡ None → distance_of new k ≡ Some m → (m ≡ distance) × Wanted k × Contains found k
  pub more : (k : ℕ) → Contains listed k → Contains found k
  pub only : (k : ℕ) → Contains found k → Contains listed k ⊎ ((distance_of old k ≡ None) × (distance_of new k ≡ Some distance))
  pub count : open_count new + length found ≡ open_count old + length listed

-- k leads to a node of the list, along an edge of the graph that has each edge reversed
abbrev pub LeadsTo : Graph → List ℕ → ℕ → Type 0
LeadsTo reversed nodes k = (i : ℕ) × Contains nodes i × EdgeOf reversed i k

-- The open nodes that lead to the root got their distances to it, along edges between open nodes.
pub record IsSpread (Edge : ℕ → ℕ → Type 0) (root : ℕ) (old new : List (Option ℕ)) : Type 0 where
  pub size : length new ≡ length old
  pub kept : (k m : ℕ) → distance_of old k ≡ Some m → distance_of new k ≡ Some m
  pub at_root : distance_of new root ≡ Some 0
  pub zero_at_root : (k : ℕ) → distance_of old k ≡ None → distance_of new k ≡ Some 0 → k ≡ root
  pub next : (k m : ℕ) → distance_of old k ≡ None → distance_of new k ≡ Some (suc m) → (i : ℕ) × Edge k i × (distance_of new i ≡ Some m)
  pub before : (k i m : ℕ) → Edge k i → distance_of old i ≡ None → distance_of new i ≡ Some m
      → IsSome (distance_of old k) ⊎ ((j : ℕ) × (distance_of new k ≡ Some j) × (j ≤ suc m))

-- Each node that leads to the root has its distance: the root alone has 0, each other node one more than the least of those
-- that it leads to.
pub record AreDistances (Edge : ℕ → ℕ → Type 0) (root : ℕ) (distances : List (Option ℕ)) : Type 0 where
  pub at_root : distance_of distances root ≡ Some 0
  pub zero_at_root : (k : ℕ) → distance_of distances k ≡ Some 0 → k ≡ root
  pub next : (k m : ℕ) → distance_of distances k ≡ Some (suc m) → (i : ℕ) × Edge k i × (distance_of distances i ≡ Some m)
  pub before : (k i m : ℕ) → Edge k i → distance_of distances i ≡ Some m → (j : ℕ) × (distance_of distances k ≡ Some j) × (j ≤ suc m)

-- the least number with the property, if there is one
abbrev pub IsLeast : (ℕ → Type 0) → Option ℕ → Type 0
IsLeast P None = (m : ℕ) → P m → ⊥
IsLeast P (Some m) = P m × ((j : ℕ) → P j → m ≤ j)

-- some of the nodes has this distance
abbrev pub HasDistance : List (Option ℕ) → List ℕ → ℕ → Type 0
HasDistance distances nodes m = (k : ℕ) × Contains nodes k × (distance_of distances k ≡ Some m)

-- the node is one of these and has this distance
abbrev pub IsAtDistance : List (Option ℕ) → List ℕ → ℕ → ℕ → Type 0
IsAtDistance distances nodes m k = Contains nodes k × (distance_of distances k ≡ Some m)

-- the lesser of two numbers, each of which may be absent
abbrev pub lesser_of : Option ℕ → Option ℕ → Option ℕ
lesser_of None b = b
lesser_of (Some a) None = Some a
lesser_of (Some a) (Some b) = Some (min a b)
