-- A network with its columns and starts, which a decision looks up.
use Rattle.std.specs.Prelude.{◌≡◌, ◌≤◌, ◌<◌, ℕ, suc, ◌+◌, ◌^◌, List, [], ◌∷◌, ◌++◌, Some, length, map, slice_get, slice_index_or}
use Rattle.g4_net.specs.declared.network.State.{State}
use Rattle.g4_net.specs.declared.network.State.TheVariants.{Decision}
use Rattle.g4_net.specs.Network.{ParserNetwork, state_at}
use Rattle.g4_classes.specs.Columns.{AreColumnsOf, column_in}
use Rattle.g4_learned.specs.declared.guards.TheConstants.{MOST_ALTERNATIVES}
use Rattle.g4_guards.specs.Levels.{IsCondition, IsDecision, IsGuard}
use Rattle.g4_guards.specs.Tests.{HasTests}
use Rattle.g4_guards.specs.declared.tests.Tests.{Tests}
use Rattle.g4_learned.specs.Guards.{AreGuardsOf}

-- the network; for each symbol, by its index, its column, and how many columns there are; for each start its decision and its guard
pub record Tables : Type 0 where
  pub net : ParserNetwork
  pub columns : List ℕ
  pub count : ℕ
  pub starts : List (ℕ × ℕ)

-- the column of a symbol
abbrev pub column_of : Tables → ℕ → ℕ
column_of t a = column_in t.columns a

-- the start of a decision under a condition: that of its guard
abbrev pub IsStartOf : Tables → ℕ → ℕ → ℕ → Type 0
IsStartOf t d condition i = (guard : ℕ) × (slice_get t.starts i ≡ Some (d, guard)) × IsGuard t.net d condition guard

-- One start for each decision and each of its guards: that of each condition of 32 bits is there.
pub record AreStarts (net : ParserNetwork) (starts : List (ℕ × ℕ)) : Type 0 where
  pub there : (d condition : ℕ) → IsDecision net d → IsCondition net d condition → condition < 2 ^ 32
      → (i guard : ℕ) × (slice_get starts i ≡ Some (d, guard)) × IsGuard net d condition guard
  pub guards : (i d guard : ℕ) → slice_get starts i ≡ Some (d, guard)
      → IsDecision net d × IsCondition net d guard × IsGuard net d guard guard
  pub fits : (i d guard : ℕ) → slice_get starts i ≡ Some (d, guard) → guard < 2 ^ 32
  pub once : (i j d guard : ℕ) → slice_get starts i ≡ Some (d, guard) → slice_get starts j ≡ Some (d, guard) → i ≡ j

-- the decisions have no more alternatives than a code can name
abbrev pub HasFewAlternatives : ParserNetwork → Type 0
HasFewAlternatives net = (d : ℕ) (targets : List ℕ) → state_at net d ≡ Some (Decision targets) → length targets ≤ MOST_ALTERNATIVES

-- The columns are those of the classes of the network's symbols, and the starts are those of its decisions.
pub record AreTables (t : Tables) : Type 0 where
  pub columns : AreColumnsOf t.net (column_of t) t.count
  pub starts : AreStarts t.net t.starts
  pub few : HasFewAlternatives t.net

-- the guard of a key
abbrev pub guard_of : List (ℕ × ℕ) → ℕ → ℕ
guard_of keys i = (slice_index_or keys i (0, 0)).1

-- the guards of states from d on, each with its state
abbrev pub keys_from : ℕ → List (List ℕ) → List (ℕ × ℕ)
keys_from d [] = []
keys_from d (guards ∷ more) = map (λ (l : ℕ). let key : ℕ × ℕ = (d, l) in key) guards ++ keys_from (suc d) more

-- where the guards of each state begin among them, and where the last ones end
abbrev pub places_from : ℕ → List (List ℕ) → List ℕ
places_from n [] = n ∷ []
places_from n (guards ∷ more) = n ∷ places_from (n + length guards) more

-- the guards of each of these states
pub record AreAllGuards (net : ParserNetwork) (states : List (State (List ℕ))) (all : List (List ℕ)) : Type 0 where
  pub count : length all ≡ length states
  pub each : (d : ℕ) (s : State (List ℕ)) → slice_get states d ≡ Some s
      → (guards : List ℕ) × (slice_get all d ≡ Some guards) × AreGuardsOf net d s guards

-- The starts of the states before some place, and where those of each begin.
pub record AreKeys (net : ParserNetwork) (states : List (State (List ℕ))) (first : List ℕ) (keys : List (ℕ × ℕ)) : Type 0 where
  pub all : List (List ℕ)
  pub guards : AreAllGuards net states all
  pub places : first ≡ places_from 0 all
  pub are : keys ≡ keys_from 0 all

-- What the alternatives of each state begin with.
pub record HaveAllTests (net : ParserNetwork) (tests : List Tests) : Type 0 where
  pub count : length tests ≡ length net.states
  pub each : (d : ℕ) (found : Tests) → slice_get tests d ≡ Some found → HasTests net d found
