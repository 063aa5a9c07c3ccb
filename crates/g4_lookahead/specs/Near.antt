-- When an alternative of a decision can be decided nearby: from what the decision leads to before its rule ends, and from the
-- newest return states of the parser's stack.
use Rattle.std.specs.Prelude.{◌≡◌, ◌≤◌, ◌⊎◌, ℕ, List, [], ◌∷◌, ◌++◌, All, Some}
use Rattle.g4_net.specs.Configurations.{Config, config, above_bottom}
use Rattle.g4_net.specs.declared.network.State.TheVariants.{End}
use Rattle.g4_net.specs.Leads.{Reaches}
use Rattle.g4_net.specs.Lookahead.{Firsts, IsEmpty, Rest, Start}
use Rattle.g4_net.specs.Network.{ParserNetwork, state_at}
use Rattle.g4_lookahead.specs.Covering.{Takers}
use Rattle.g4_lookahead.specs.Ways.{EndsAtOnce}

-- what a decision leads to before its rule ends
abbrev pub Own : ParserNetwork → ℕ → (ℕ → Type 0) → Config → Type 0
Own net d A = Start net d A (above_bottom [])

-- what a return state leads to before its rule ends
abbrev pub AfterReturn : ParserNetwork → ℕ → ℕ → Config → Type 0
AfterReturn net t j = Rest net (λ c. c ≡ config t j (above_bottom []))

-- the configuration leads to the end of its rule, with no return state of its own left
abbrev pub Leaves : ParserNetwork → Config → Type 0
Leaves net c = (p : ℕ) × (rule : ℕ) × (state_at net p ≡ Some (End rule)) × Reaches net c (config p c.alt (above_bottom []))

-- The rule can end at once at the return state t, and the set N has for alternative i all that takes the symbol there for
-- alternative j.
pub record IsPassed (net : ParserNetwork) (N : Config → Type 0) (a i j t : ℕ) : Type 0 where
  pub ends : EndsAtOnce net t
  pub covered : (c : Config) → Takers net (AfterReturn net t j) a c → N (config c.state i c.stack)

-- Nothing takes the symbol at the return state t, and its rule does not end before a symbol is read.
pub record IsStop (net : ParserNetwork) (a j t : ℕ) : Type 0 where
  pub none : IsEmpty (Takers net (AfterReturn net t j) a)
  pub stays : Leaves net (config t j (above_bottom [])) → ⊥

-- the newest of the return states is such a one, if there are any
abbrev pub StopsAt : ParserNetwork → ℕ → ℕ → List ℕ → Type 0
StopsAt net a j [] = Unit {0}
StopsAt net a j (t ∷ more) = IsStop net a j t

-- Return states, newest first: some that are passed, and then one that stops, or none.
pub record AreNear (net : ParserNetwork) (N : Config → Type 0) (a i j : ℕ) (returns : List ℕ) : Type 0 where
  pub passed : List ℕ
  pub others : List ℕ
  pub are : returns ≡ passed ++ others
  pub each : All (IsPassed net N a i j) passed
  pub stops : StopsAt net a j others

-- Alternative i can be decided nearby on the symbol: it has all that takes the symbol before the decision's rule ends, and no
-- alternative that takes it there or that leads to the end of the rule is less. From each other alternative that leads to the
-- end, the return states are near.
pub record IsNear (net : ParserNetwork) (d : ℕ) (A : ℕ → Type 0) (returns : List ℕ) (a i : ℕ) : Type 0 where
  pub own : (c : Config) → Takers net (Own net d A) a c → (i ≤ c.alt) × Own net d A (config c.state i c.stack)
  pub leaving : (c : Config) → Firsts net d A (above_bottom []) c → Leaves net c
      → (i ≤ c.alt) × ((c.alt ≡ i) ⊎ AreNear net (Own net d A) a i c.alt returns)
