-- The predicates and levels with which the alternatives of a decision begin: their first tests, one after another.
use Rattle.std.specs.Prelude.{◌≡◌, ◌≤◌, ◌<◌, ℕ, suc, List, [], ◌∷◌, Bool, true, false, Option, Some, None, if◌then◌else◌}
use Rattle.g4_net.specs.declared.network.State.{State}
use Rattle.g4_net.specs.declared.network.State.TheVariants.{Decision, End, Edge, Call, Predicate, Level, Action, Empty}
use Rattle.g4_net.specs.Network.{ParserNetwork, state_at, IsFirst}
use Rattle.g4_guards.specs.declared.tests.TheConstants.{MOST_TESTED}
use Rattle.g4_guards.specs.declared.tests.Tests.{Tests}
use Rattle.g4_guards.specs.declared.tests.Tests.TheVariants.{Levels, Few, Many}

-- a predicate is among the tests that begin at the state
pub data BeginsTesting (net : ParserNetwork) : ℕ → Type 0 where
  by_predicate : (p k t : ℕ) → state_at net p ≡ Some (Predicate k t) → BeginsTesting net p
  after_level : (p q t : ℕ) → state_at net p ≡ Some (Level q t) → BeginsTesting net t → BeginsTesting net p

-- the alternatives of the decision begin with no tests but levels
abbrev pub HasNoPredicate : ParserNetwork → ℕ → Type 0
HasNoPredicate net d = (i t : ℕ) → IsFirst net d i t → BeginsTesting net t → ⊥

-- whether the state is a predicate or a level
abbrev pub is_test : Option (State (List ℕ)) → Bool
is_test (Some (Predicate k t)) = true
is_test (Some (Level q t)) = true
is_test (Some (Decision targets)) = false
is_test (Some (End rule)) = false
is_test (Some (Edge set t)) = false
is_test (Some (Call rule level back)) = false
is_test (Some (Action t)) = false
is_test (Some (Empty t)) = false
is_test None = false

-- how many of the states are
abbrev pub tests_among : ParserNetwork → List ℕ → ℕ
tests_among net [] = 0
tests_among net (t ∷ ts) = if is_test (state_at net t) then suc (tests_among net ts) else tests_among net ts

-- the alternatives of the decision have these first states, and few of them are tests
abbrev pub HasFewTests : ParserNetwork → ℕ → List ℕ → Type 0
HasFewTests net d targets = (state_at net d ≡ Some (Decision targets)) × (tests_among net targets ≤ MOST_TESTED)

-- the same, and more of them are
abbrev pub HasManyTests : ParserNetwork → ℕ → List ℕ → Type 0
HasManyTests net d targets = (state_at net d ≡ Some (Decision targets)) × (MOST_TESTED < tests_among net targets)

-- what the first states of the decision's alternatives test
abbrev pub HasTests : ParserNetwork → ℕ → Tests → Type 0
HasTests net d Levels = HasNoPredicate net d
HasTests net d Few = (HasNoPredicate net d → ⊥) × ((targets : List ℕ) × HasFewTests net d targets)
HasTests net d Many = (HasNoPredicate net d → ⊥) × ((targets : List ℕ) × HasManyTests net d targets)
