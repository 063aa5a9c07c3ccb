-- What is spelled from a state of a network, whatever its edges are labelled with.
use Rattle.std.specs.Prelude.{◌≡◌, ℕ, List, ◌∷◌, Option, Some, Contains}
use Rattle.g4_net.specs.declared.network.Network.{Network}
use Rattle.g4_net.specs.declared.network.State.{State}
use Rattle.g4_net.specs.declared.network.State.TheVariants.{Decision, End, Edge, Call, Predicate, Level, Action, Empty}
use Rattle.g4_net.specs.Network.{ParserNetwork, state_at, start_of}

-- an edge that reads nothing, and is no call, goes from the state to t
abbrev pub PassesBy : {L : Type 0} → Option (State L) → ℕ → Type 0
PassesBy (Some (Decision targets)) t = Contains targets t
PassesBy (Some (Predicate k u)) t = t ≡ u
PassesBy (Some (Level q u)) t = t ≡ u
PassesBy (Some (Action u)) t = t ≡ u
PassesBy (Some (Empty u)) t = t ≡ u
PassesBy _ t = ⊥

-- From p, what is in w before z is spelled; Takes says of a label what is before its edge and what after it. A rule's
-- end spells nothing; an edge, what its label takes, then what its target spells; a call, what the called rule's start
-- spells, then what the return state spells; any other edge, what its target spells.
pub data Spells {L W : Type 0} (net : Network L) (Takes : L → List W → List W → Type 0) : ℕ → List W → List W → Type 0 where
  ends : (p rule : ℕ) (w : List W) → state_at net p ≡ Some (End rule) → Spells net Takes p w w
  takes : (p t : ℕ) (label : L) (w v z : List W) → state_at net p ≡ Some (Edge label t) → Takes label w v → Spells net Takes t v z →
      Spells net Takes p w z
  calls : (p rule level back : ℕ) (w v z : List W) → state_at net p ≡ Some (Call rule level back) →
      Spells net Takes (start_of rule) w v → Spells net Takes back v z → Spells net Takes p w z
  passes : (p t : ℕ) (w z : List W) → PassesBy (state_at net p) t → Spells net Takes t w z → Spells net Takes p w z

-- what a parser's label takes: the first symbol, which is one of its set
abbrev pub TakesFirst : List ℕ → List ℕ → List ℕ → Type 0
TakesFirst set w v = (a : ℕ) × (w ≡ a ∷ v) × Contains set a

-- from p, what is in the word w before z is spelled
abbrev pub SpellsWord : ParserNetwork → ℕ → List ℕ → List ℕ → Type 0
SpellsWord net = Spells net TakesFirst
