-- The row of a set, part by part: for each state and alternative the stacks in order.
use Rattle.std.specs.Prelude.{◌≡◌, ◌<◌, ◌⊎◌, ℕ, List, [], ◌∷◌, ◌++◌, map}
use Rattle.std.specs.List.{AllByRecursion}
use Rattle.std.specs.Ordering.{nat_cmp, ordering_then}
use Rattle.std.specs.declared.cmp.Ordering.{Ordering}
use Rattle.g4_stacks.specs.Table.{pair_cmp}
use Rattle.g4_net.specs.Configurations.{Config, Stack, config}
use Rattle.g4_configs.specs.declared.group.Group.{Group}
use Rattle.g4_configs.specs.Groups.{group_of}

-- the configurations of a state and an alternative with these stacks
abbrev pub configs_of : ℕ × ℕ → List Stack → List Config
configs_of q stacks = map (config q.0 q.1) stacks

-- those of each state and alternative with its stacks, in turn
abbrev pub row_of : List (ℕ × ℕ) → List (List Stack) → List Config
row_of [] lists = []
row_of (q ∷ qs) [] = []
row_of (q ∷ qs) (stacks ∷ lists) = configs_of q stacks ++ row_of qs lists

-- the groups of states and alternatives with these sets of stacks, in turn
abbrev pub groups_of : List (ℕ × ℕ) → List ℕ → List Group
groups_of [] nodes = []
groups_of (q ∷ qs) [] = []
groups_of (q ∷ qs) (n ∷ nodes) = group_of (q, n) ∷ groups_of qs nodes

-- q comes before r: by state, then by alternative
abbrev pub PairBefore : ℕ × ℕ → ℕ × ℕ → Type 0
PairBefore q r = (q.0 < r.0) ⊎ ((q.0 ≡ r.0) × (q.1 < r.1))

-- the order of entries: by state, then by alternative, then by node
abbrev pub entry_cmp : (ℕ × ℕ) × ℕ → (ℕ × ℕ) × ℕ → Ordering
entry_cmp x y = ordering_then (pair_cmp x.0 y.0) (nat_cmp x.1 y.1)

-- there is a stack
abbrev pub IsFilled : List Stack → Type 0
IsFilled [] = ⊥
IsFilled (s ∷ more) = Unit {0}

-- the states and alternatives are in order, and each has stacks
abbrev pub IsParted : List (ℕ × ℕ) → List (List Stack) → Type 0
IsParted [] [] = Unit {0}
IsParted [] (stacks ∷ lists) = ⊥
IsParted (q ∷ qs) [] = ⊥
IsParted (q ∷ qs) (stacks ∷ lists) = IsFilled stacks × AllByRecursion (PairBefore q) qs × IsParted qs lists
