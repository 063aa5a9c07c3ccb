-- The guards of the decisions, each of which has a start.
use Rattle.std.specs.Prelude.{◌≡◌, ◌≤◌, ◌<◌, ◌^◌, ◌↔◌, ℕ, List, [], Contains, length}
use Rattle.std.specs.List.Sorted.{IsStrictlyIncreasing}
use Rattle.g4_net.specs.declared.network.State.{State}
use Rattle.g4_net.specs.declared.network.State.TheVariants.{Decision, End, Edge, Call, Predicate, Level, Action, Empty}
use Rattle.g4_net.specs.Network.{ParserNetwork}
use Rattle.g4_guards.specs.Tests.{HasNoPredicate, tests_among}
use Rattle.g4_guards.specs.declared.tests.TheConstants.{MOST_TESTED}
use Rattle.g4_learned.specs.Levels.{AreLevels}
use Rattle.g4_learned.specs.declared.guards.TheConstants.{MOST_ALTERNATIVES}

-- The numbers below this one, least first.
pub record AreBelow (n : ℕ) (numbers : List ℕ) : Type 0 where
  pub rising : IsStrictlyIncreasing numbers
  pub are : (l : ℕ) → Contains numbers l ↔ (l < n)

-- The guards of a decision with these first states: the levels at which what may be taken changes; or the conditions of its tests, where
-- it has a few; or none.
pub data AreGuards (net : ParserNetwork) (d : ℕ) (targets guards : List ℕ) : Type 0 where
  by_levels : HasNoPredicate net d → AreLevels net targets guards → AreGuards net d targets guards
  by_digits : (HasNoPredicate net d → ⊥) → tests_among net targets ≤ MOST_TESTED → AreBelow (2 ^ tests_among net targets) guards
      → AreGuards net d targets guards
  unguarded : (HasNoPredicate net d → ⊥) → MOST_TESTED < tests_among net targets → guards ≡ [] → AreGuards net d targets guards

-- the same of a state: what is no decision has none
abbrev pub AreGuardsOf : ParserNetwork → ℕ → State (List ℕ) → List ℕ → Type 0
AreGuardsOf net d (Decision targets) guards = AreGuards net d targets guards × (length targets ≤ MOST_ALTERNATIVES)
AreGuardsOf net d (End rule) guards = guards ≡ []
AreGuardsOf net d (Edge set t) guards = guards ≡ []
AreGuardsOf net d (Call rule level back) guards = guards ≡ []
AreGuardsOf net d (Predicate k t) guards = guards ≡ []
AreGuardsOf net d (Level q t) guards = guards ≡ []
AreGuardsOf net d (Action t) guards = guards ≡ []
AreGuardsOf net d (Empty t) guards = guards ≡ []
