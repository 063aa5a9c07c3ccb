-- When a graph is canonical: each set has one node.
use Rattle.std.specs.Prelude.{◌≡◌, ◌<◌, ℕ, List, [], ◌∷◌, ◌++◌, true, false, Some, slice_get}
use Rattle.g4_stacks.specs.Graph.{Content, Ascends}

-- no stack at all
abbrev pub nothing : Content
nothing = record { end = false; wild = false; tops = [] }

-- `$` alone
abbrev pub only_bottom : Content
only_bottom = record { end = true; wild = false; tops = [] }

-- `#` alone
abbrev pub only_wildcard : Content
only_wildcard = record { end = false; wild = true; tops = [] }

-- each leads to a node below n, and none to the empty set
abbrev pub LeadBelow : ℕ → List (ℕ × ℕ) → Type 0
LeadBelow n [] = Unit {0}
LeadBelow n (e ∷ es) = (0 < e.1) × (e.1 < n) × LeadBelow n es

-- a content that may be at number n
pub record IsPlain (n : ℕ) (c : Content) : Type 0 where
  pub sorted : Ascends 0 c.tops
  pub lower : LeadBelow n c.tops

pub record IsCanonical (graph : List Content) : Type 0 where
  pub first : slice_get graph 0 ≡ Some nothing
  pub second : slice_get graph 1 ≡ Some only_bottom
  pub third : slice_get graph 2 ≡ Some only_wildcard
  pub plain : (n : ℕ) (c : Content) → slice_get graph n ≡ Some c → IsPlain n c
  pub once : (m n : ℕ) (c : Content) → slice_get graph m ≡ Some c → slice_get graph n ≡ Some c → m ≡ n

-- the graph only grew
abbrev pub Grows : List Content → List Content → Type 0
Grows old new = (added : List Content) × (new ≡ old ++ added)
