-- What a merge gives, and its steps down two lists of tops.
use Rattle.std.specs.Prelude.{◌≡◌, ◌<◌, ◌+◌, ◌↔◌, ◌⊎◌, ℕ, List, [], ◌∷◌, Option, Some, None, slice_get, drop}
use Rattle.g4_net.specs.Configurations.{Stack}
use Rattle.g4_stacks.specs.Graph.{Content, In, Has, IsNode}
use Rattle.g4_stacks.specs.Table.{Numbers, number_at}
use Rattle.g4_stacks.specs.Canonical.{IsCanonical}
use Rattle.g4_stacks.specs.declared.next.Next.{Next}
use Rattle.g4_stacks.specs.declared.next.Next.TheVariants.{Done, Left, Right, Both}

-- the node n of the new graph has the stacks of both
abbrev pub IsUnion : List Content → ℕ → ℕ → List Content → ℕ → Type 0
IsUnion old a b new n = (s : Stack) → Has new n s ↔ (Has old a s ⊎ Has old b s)

-- the tops of what is held
abbrev pub tops_by : Option Content → List (ℕ × ℕ)
tops_by None = []
tops_by (Some c) = c.tops

abbrev pub tops_of : List Content → ℕ → List (ℕ × ℕ)
tops_of graph n = tops_by (slice_get graph n)

-- the stacks that a list of tops has with t on top, by their rests
abbrev pub ByTop : List Content → List (ℕ × ℕ) → ℕ → Stack → Type 0
ByTop graph tops t s = (m : ℕ) × In (t, m) tops × Has graph m s

-- the first state of the list, if any, is above t
abbrev pub StartsAbove : ℕ → List (ℕ × ℕ) → Type 0
StartsAbove t [] = Unit {0}
StartsAbove t (e ∷ es) = t < e.0

-- the least state that two ascending lists have from places i and j on, and where it leads
abbrev pub IsNext : List (ℕ × ℕ) → ℕ → List (ℕ × ℕ) → ℕ → Next → Type 0
IsNext xs i ys j Done = (drop i xs ≡ []) × (drop j ys ≡ [])
IsNext xs i ys j (Left t m) = (drop i xs ≡ (t, m) ∷ drop (i + 1) xs) × StartsAbove t (drop j ys)
IsNext xs i ys j (Right t n) = (drop j ys ≡ (t, n) ∷ drop (j + 1) ys) × StartsAbove t (drop i xs)
IsNext xs i ys j (Both t m n) = (drop i xs ≡ (t, m) ∷ drop (i + 1) xs) × (drop j ys ≡ (t, n) ∷ drop (j + 1) ys)

-- these are merges of nodes of the graph, each with the node that means both
abbrev pub IsMemo : List Content → Numbers → Type 0
IsMemo graph m = (a b r : ℕ) → number_at m (a, b) ≡ Some r → IsNode graph a × IsNode graph b × IsNode graph r × IsUnion graph a b graph r

-- the node has all stacks of the part
abbrev pub IsPart : List Content → ℕ → ℕ → Type 0
IsPart graph n part = (s : Stack) → Has graph part s → Has graph n s

-- the list has at the numbers of nodes, from 0 up to some node, a part of each
abbrev pub AreParts : List Content → List ℕ → Type 0
AreParts graph parts = (n part : ℕ) → slice_get parts n ≡ Some part → IsNode graph n × IsNode graph part × IsPart graph n part

-- what a graph's fields keep
pub record IsSound (graph : List Content) (m : Numbers) (below : List ℕ) : Type 0 where
  pub canonical : IsCanonical graph
  pub memo : IsMemo graph m
  pub parts : AreParts graph below
