-- The edges of a graph that is given as a list of successors for each node.
use Rattle.std.specs.Prelude.{◌≡◌, ◌<◌, ◌↔◌, ◌⊎◌, ℕ, List, [], Contains, Option, Some, None, length, slice_get, Vec}
use Rattle.std.specs.Global.{Global}

abbrev pub Graph : Type 0
Graph = List (Vec ℕ Global)

abbrev pub listed_by : Option (Vec ℕ Global) → List ℕ
listed_by None = []
listed_by (Some listed) = listed.items

-- the successors listed of a node; none past the last node
abbrev pub successors_of : Graph → ℕ → List ℕ
successors_of graph k = listed_by (slice_get graph k)

-- j is among the successors of k
abbrev pub EdgeOf : Graph → ℕ → ℕ → Type 0
EdgeOf graph k j = Contains (successors_of graph k) j

-- The new graph has the edges of the old one, and one to the node from each of these successors, but for those past the last
-- node.
pub record AddsReversed (node : ℕ) (successors : List ℕ) (old new : Graph) : Type 0 where
  pub size : length new ≡ length old
  pub edges : (k i : ℕ) → EdgeOf new i k ↔ (EdgeOf old i k ⊎ ((k ≡ node) × Contains successors i × (i < length old)))

-- The graph has the edges of the other reversed, but for those that lead past its last node.
pub record IsReverse (graph reversed : Graph) : Type 0 where
  pub size : length reversed ≡ length graph
  pub edges : (k i : ℕ) → EdgeOf reversed i k ↔ (EdgeOf graph k i × (i < length graph))

-- the edges of a graph, the other way round
abbrev pub Backward : Graph → ℕ → ℕ → Type 0
Backward graph k i = EdgeOf graph i k
