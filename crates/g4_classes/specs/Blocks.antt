-- The least members of blocks. A list has for each member, by its index, the number of its block.
use Rattle.std.specs.Prelude.{◌≡◌, ◌<◌, ◌≤◌, ℕ, List, length, slice_index}

-- least is the least of the members from `from` on that have the block
pub record IsLeastFrom (from : ℕ) (blocks : List ℕ) (block least : ℕ) : Type 0 where
  pub within : least < length blocks
  pub past : from ≤ least
  pub same : slice_index blocks least ≡ block
  pub first : (j : ℕ) → from ≤ j → j < length blocks → slice_index blocks j ≡ block → least ≤ j

-- each block that has a member from `from` on is given the least of those
abbrev pub AreLeastFrom : ℕ → List ℕ → List ℕ → Type 0
AreLeastFrom from blocks least = (i : ℕ) → from ≤ i → i < length blocks
    → IsLeastFrom from blocks (slice_index blocks i) (slice_index least (slice_index blocks i))

-- each member is given the least one of its block
pub record AreLeast (blocks least : List ℕ) : Type 0 where
  pub count : length least ≡ length blocks
  pub each : (i : ℕ) → i < length blocks → IsLeastFrom 0 blocks (slice_index blocks i) (slice_index least i)
