-- The levels at which what may be taken of a decision changes.
use Rattle.std.specs.Prelude.{◌≡◌, ◌⊎◌, ℕ, ◌+◌, ◌-◌, ◌^◌, List, [], ◌∷◌, ◌++◌, Option, Some, None, Contains, nat_lt, if◌then◌else◌}
use Rattle.std.specs.List.Sorted.{IsStrictlyIncreasing}
use Rattle.g4_net.specs.declared.network.State.{State}
use Rattle.g4_net.specs.declared.network.State.TheVariants.{Decision, End, Edge, Call, Predicate, Level, Action, Empty}
use Rattle.g4_net.specs.Network.{ParserNetwork, state_at}

-- the first level at which the state may not be passed any more, where a `u32` has one
abbrev pub next_level : Option (State (List ℕ)) → List ℕ
next_level (Some (Level q t)) = if nat_lt q (2 ^ 32 - 1) then (q + 1) ∷ [] else []
next_level (Some (Decision targets)) = []
next_level (Some (End rule)) = []
next_level (Some (Edge set t)) = []
next_level (Some (Call rule level back)) = []
next_level (Some (Predicate k t)) = []
next_level (Some (Action t)) = []
next_level (Some (Empty t)) = []
next_level None = []

-- those of first states
abbrev pub next_levels : ParserNetwork → List ℕ → List ℕ
next_levels net [] = []
next_levels net (t ∷ ts) = next_level (state_at net t) ++ next_levels net ts

-- The levels at which what may be taken of these first states changes, and 0.
pub record AreLevels (net : ParserNetwork) (targets levels : List ℕ) : Type 0 where
  pub rising : IsStrictlyIncreasing levels
  pub all : (l : ℕ) → (l ≡ 0) ⊎ Contains (next_levels net targets) l → Contains levels l
  pub only : (l : ℕ) → Contains levels l → (l ≡ 0) ⊎ Contains (next_levels net targets) l
