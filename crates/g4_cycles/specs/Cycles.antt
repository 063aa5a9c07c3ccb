-- Cycles of any relation between numbered nodes.
use Rattle.std.specs.Prelude.{◌≡◌, ◌<◌, ◌≤◌, ◌⊎◌, ℕ, List, [], ◌∷◌, length, Option, Some, None}

-- k leads to j in one step or more
pub data Reaches (Edge : ℕ → ℕ → Type 0) : ℕ → ℕ → Type 0 where
  once : (k j : ℕ) → Edge k j → Reaches Edge k j
  further : (k i j : ℕ) → Edge k i → Reaches Edge i j → Reaches Edge k j

-- k leads to the first of the nodes, each of them to the next, and the last to j
abbrev pub LeadsAlong : (ℕ → ℕ → Type 0) → ℕ → List ℕ → ℕ → Type 0
LeadsAlong Edge k [] j = Edge k j
LeadsAlong Edge k (i ∷ nodes) j = Edge k i × LeadsAlong Edge i nodes j

-- a list of one node or more, in which each node leads to the next and the last to the first
abbrev pub IsCycle : (ℕ → ℕ → Type 0) → List ℕ → Type 0
IsCycle Edge [] = ⊥
IsCycle Edge (first ∷ nodes) = LeadsAlong Edge first nodes first

-- the list begins with this node
abbrev pub BeginsWith : ℕ → List ℕ → Type 0
BeginsWith first [] = ⊥
BeginsWith first (k ∷ nodes) = k ≡ first

-- the one list is before the other in lexicographic order
abbrev pub Precedes : List ℕ → List ℕ → Type 0
Precedes xs [] = ⊥
Precedes [] (y ∷ ys) = Unit {0}
Precedes (x ∷ xs) (y ∷ ys) = (x < y) ⊎ ((x ≡ y) × Precedes xs ys)

-- Of the cycles that begin with this node it is the shortest, and the least by numbers among the shortest.
pub record IsShortestFrom (Edge : ℕ → ℕ → Type 0) (first : ℕ) (cycle : List ℕ) : Type 0 where
  pub begins : BeginsWith first cycle
  pub is_cycle : IsCycle Edge cycle
  pub shortest : (other : List ℕ) → BeginsWith first other → IsCycle Edge other → length cycle ≤ length other
  pub least : (other : List ℕ) → BeginsWith first other → IsCycle Edge other → length other ≡ length cycle → Precedes other cycle → ⊥

-- It is the shortest cycle from the least node that is on one: no smaller node reaches itself.
pub record IsFirstCycle (Edge : ℕ → ℕ → Type 0) (cycle : List ℕ) : Type 0 where
  pub first : ℕ
  pub shortest : IsShortestFrom Edge first cycle
  pub none_below : (k : ℕ) → k < first → Reaches Edge k k → ⊥

-- the answer is the first cycle, or that no node reaches itself
abbrev pub Answers : (ℕ → ℕ → Type 0) → Option (List ℕ) → Type 0
Answers Edge None = (k : ℕ) → Reaches Edge k k → ⊥
Answers Edge (Some cycle) = IsFirstCycle Edge cycle
