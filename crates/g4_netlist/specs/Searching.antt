-- What is known while the states of a rule are looked for.
use Rattle.std.specs.Prelude.{◌≡◌, ◌<◌, ◌+◌, ◌↔◌, ◌⊎◌, ℕ, List, [], ◌∷◌, Bool, true, false, not, Option, Some, None, Contains, length, count_by, filter, slice_index_or}
use Rattle.std.specs.List.{range_with_len}
use Rattle.g4_net.specs.declared.network.State.{State}
use Rattle.g4_net.specs.declared.network.State.TheVariants.{Decision, End, Edge, Call, Predicate, Level, Action, Empty}
use Rattle.g4_net.specs.Network.{ParserNetwork, start_of, end_of}
use Rattle.g4_netlist.specs.declared.search.Search.{Search}
use Rattle.g4_netlist.specs.OfRule.{Follows, IsOfRule}

-- the state is marked as found
abbrev pub IsFound : List Bool → ℕ → Type 0
IsFound found p = slice_index_or found p false ≡ true

-- the state is one that can still be marked
abbrev pub IsNew : List Bool → ℕ → Type 0
IsNew found p = (p < length found) × (slice_index_or found p false ≡ false)

-- the numbers of the states that are marked, least first
abbrev pub marked : List Bool → ℕ → List ℕ
marked found count = filter (λ p. slice_index_or found p false) (range_with_len 0 count)

-- the targets of a state's edges, in order
abbrev pub targets_of : State (List ℕ) → List ℕ
targets_of (Decision targets) = targets
targets_of (End rule) = []
targets_of (Edge set t) = t ∷ []
targets_of (Call rule level back) = back ∷ []
targets_of (Predicate k t) = t ∷ []
targets_of (Level q t) = t ∷ []
targets_of (Action t) = t ∷ []
targets_of (Empty t) = t ∷ []

-- the targets of a state that was looked up
abbrev pub targets_by : Option (State (List ℕ)) → List ℕ
targets_by None = []
targets_by (Some s) = targets_of s

-- the state is found, or one of those that are left
abbrev pub IsCovered : List ℕ → List Bool → ℕ → Type 0
IsCovered left found p = IsFound found p ⊎ Contains left p

-- What is known of the states that are found, while these are left to be marked and the edges of these are waiting to be
-- followed.
pub record Known (net : ParserNetwork) (rule : ℕ) (left : List ℕ) (found : List Bool) (waiting : List ℕ) : Type 0 where
  pub count : length found ≡ length net.states
  pub sound : (p : ℕ) → IsFound found p → IsOfRule net rule p
  pub left_sound : (p : ℕ) → Contains left p → IsOfRule net rule p
  pub are_found : (p : ℕ) → Contains waiting p → IsFound found p
  pub start : start_of rule < length found → IsCovered left found (start_of rule)
  pub end : end_of rule < length found → IsCovered left found (end_of rule)
  pub followed : (p q : ℕ) → IsFound found p → Follows net p q → q < length found → Contains waiting p ⊎ IsCovered left found q

abbrev pub IsUnderWay : ParserNetwork → ℕ → List ℕ → Search → Type 0
IsUnderWay net rule left s = Known net rule left s.found.items s.waiting.items

-- how many states may still be marked or followed
abbrev pub work_left : Search → ℕ
work_left s = count_by not s.found.items + length s.waiting.items

-- the marks are of exactly the states of the rule
pub record AreMarks (net : ParserNetwork) (rule : ℕ) (found : List Bool) : Type 0 where
  pub count : length found ≡ length net.states
  pub exactly : (p : ℕ) → IsFound found p ↔ (IsOfRule net rule p × (p < length net.states))
