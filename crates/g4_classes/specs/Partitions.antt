-- Partitions of the symbols. A list has for each symbol, by its index, the number of its block.
use Rattle.std.specs.Prelude.{◌≡◌, ◌<◌, ◌≤◌, ◌↔◌, ℕ, List, [], Contains, length, slice_index}
use Rattle.g4_net.specs.declared.network.State.{State}
use Rattle.g4_net.specs.declared.network.State.TheVariants.{Decision, End, Edge, Call, Predicate, Level, Action, Empty}
use Rattle.g4_classes.specs.Indices.{symbol_at}

-- the symbols that a state reads
abbrev pub read_by : State (List ℕ) → List ℕ
read_by (Decision targets) = []
read_by (End rule) = []
read_by (Edge set t) = set
read_by (Call rule level back) = []
read_by (Predicate k t) = []
read_by (Level q t) = []
read_by (Action t) = []
read_by (Empty t) = []

-- the set has both of the symbols of these indices or neither
abbrev pub AreTogether : List ℕ → ℕ → ℕ → Type 0
AreTogether set i j = Contains set (symbol_at i) ↔ Contains set (symbol_at j)

-- two symbols are in one new block where they were in one block and the set has both or neither
pub record Divides (set old new : List ℕ) : Type 0 where
  pub count : length new ≡ length old
  pub exactly : (i j : ℕ) → i < length old → j < length old
      → (slice_index new i ≡ slice_index new j) ↔ ((slice_index old i ≡ slice_index old j) × AreTogether set i j)

-- each of these states reads both of the symbols of these indices or neither
abbrev pub AreAlikeIn : List (State (List ℕ)) → ℕ → ℕ → Type 0
AreAlikeIn states i j = (state : State (List ℕ)) → Contains states state → AreTogether (read_by state) i j

-- two symbols are in one block where each of the states reads both or neither
abbrev pub IsPartition : List (State (List ℕ)) → List ℕ → Type 0
IsPartition states blocks = (i j : ℕ) → i < length blocks → j < length blocks
    → (slice_index blocks i ≡ slice_index blocks j) ↔ AreAlikeIn states i j

-- Of each old block, those of its symbols that are among the seen ones are now in a block of their own, which is one of the new
-- blocks, from first_new on. For each old block `moved` has the number of that block, or that of an older one.
pub record IsDividing (seen old : List ℕ) (first_new : ℕ) (blocks moved : List ℕ) : Type 0 where
  pub count : length blocks ≡ length old
  pub room : first_new ≤ length moved
  pub are_old : (i : ℕ) → i < length old → slice_index old i < first_new
  pub kept : (i : ℕ) → i < length old → slice_index blocks i < first_new
      → (slice_index blocks i ≡ slice_index old i) × (Contains seen (symbol_at i) → ⊥)
  pub gone : (i : ℕ) → i < length old → first_new ≤ slice_index blocks i
      → (slice_index blocks i ≡ slice_index moved (slice_index old i)) × Contains seen (symbol_at i)
  pub apart : (b c : ℕ) → b < first_new → c < first_new → first_new ≤ slice_index moved b → slice_index moved b ≡ slice_index moved c
      → b ≡ c

-- Members of the block move to `target`: to where others of it have moved, or to a block that is new. Nothing else changes.
pub record IsTarget (block first_new target : ℕ) (moved then_moved : List ℕ) : Type 0 where
  pub new : first_new ≤ target
  pub here : slice_index then_moved block ≡ target
  pub others : (b : ℕ) → b < length moved → (b ≡ block → ⊥) → slice_index then_moved b ≡ slice_index moved b
  pub before : first_new ≤ slice_index moved block → target ≡ slice_index moved block
  pub fresh : slice_index moved block < first_new → (b : ℕ) → b < length moved → (slice_index moved b ≡ target → ⊥)
  pub room : length moved ≤ length then_moved
  pub within : target < length then_moved
