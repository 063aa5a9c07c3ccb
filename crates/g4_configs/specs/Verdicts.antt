-- How the groups of a list compare.
use Rattle.std.specs.Prelude.{◌≡◌, ◌+◌, ◌-◌, ◌<◌, ℕ, List, Some, All, Contains, length, slice_index_or}
use Rattle.g4_configs.specs.declared.group.Group.{Group}
use Rattle.g4_configs.specs.Groups.{Entries, node_at}

-- a group's state and stacks
abbrev pub pair_of : Group → ℕ × ℕ
pair_of x = (x.state, x.stacks)

-- some item appears at two places of the list
abbrev pub HasTwice : {X : Type 0} → List X → Type 0
HasTwice {X} xs = (i j : ℕ) × (i < j) × (j < length xs) × ((d : X) → slice_index_or xs i d ≡ slice_index_or xs j d)

-- some item is followed by itself
abbrev pub HasEqualNeighbours : {X : Type 0} → List X → Type 0
HasEqualNeighbours {X} xs = (i : ℕ) × (i + 1 < length xs) × ((d : X) → slice_index_or xs i d ≡ slice_index_or xs (i + 1) d)

-- there is a group at the index, and the one before it is of its state
abbrev pub Follows : List Group → ℕ → Type 0
Follows xs i = (0 < i) × (i < length xs) × ((d : Group) → (slice_index_or xs (i - 1) d).state ≡ (slice_index_or xs i d).state)

-- the group at the index is the only one of its state
abbrev pub IsLone : List Group → ℕ → Type 0
IsLone xs i = (j : ℕ) (d : Group) → j < length xs → (slice_index_or xs j d).state ≡ (slice_index_or xs i d).state → j ≡ i

-- the state has the group's alternative, with these stacks
abbrev pub HasAlternative : Entries → ℕ → ℕ → Group → Type 0
HasAlternative m state stacks x = node_at m (state, x.alternative) ≡ Some stacks

-- The group's state has the first alternative, with its stacks, and the first state has its alternative; and where it is of the
-- first alternative, its state has the alternatives of the others too, with its stacks.
pub record IsLike (m : Entries) (first : Group) (others : List Group) (x : Group) : Type 0 where
  pub here : HasAlternative m x.state x.stacks first
  pub there : HasAlternative m first.state first.stacks x
  pub each : x.alternative ≡ first.alternative → All (HasAlternative m x.state x.stacks) others

-- at the state of each group all alternatives have its stacks
abbrev pub AreAlike : Entries → List Group → Type 0
AreAlike m xs = (x y : Group) → Contains xs x → Contains xs y → HasAlternative m y.state y.stacks x
