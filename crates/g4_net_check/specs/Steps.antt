-- How states lead to states before a symbol is read, whatever the stack.
use Rattle.std.specs.Prelude.{◌≡◌, ◌<◌, ◌^◌, ℕ, List, [], ◌∷◌, ◌⊎◌, Bool, true, Some, slice_get, Contains}
use Rattle.g4_net.specs.declared.network.Network.{Network}
use Rattle.g4_net.specs.declared.network.State.{State}
use Rattle.g4_net.specs.declared.network.State.TheVariants.{Decision, End, Edge, Call, Predicate, Level, Action, Empty}
use Rattle.g4_net.specs.Network.{state_at, start_of}
use Rattle.g4_net.specs.Leads.{LeadsOn}
use Rattle.g4_net.specs.Configurations.{config, above_bottom}

-- the targets of a state's edges that read nothing and call nothing
abbrev pub epsilon_targets : {L : Type 0} → State L → List ℕ
epsilon_targets (Decision targets) = targets
epsilon_targets (End rule) = []
epsilon_targets (Edge label t) = []
epsilon_targets (Call rule level back) = []
epsilon_targets (Predicate k t) = t ∷ []
epsilon_targets (Level q t) = t ∷ []
epsilon_targets (Action t) = t ∷ []
epsilon_targets (Empty t) = t ∷ []

-- the state has such an edge to t
abbrev pub IsEpsilon : {L : Type 0} → Network L → ℕ → ℕ → Type 0
IsEpsilon {L} net p t = (s : State L) × (state_at net p ≡ Some s) × Contains (epsilon_targets s) t

-- From the state an end of a rule is reached before a symbol is read; a rule called on the way there is left again.
pub data IsNullable {L : Type 0} (net : Network L) : ℕ → Type 0 where
  ends : (p rule : ℕ) → state_at net p ≡ Some (End rule) → IsNullable net p
  by_edge : (p t : ℕ) → IsEpsilon net p t → IsNullable net t → IsNullable net p
  by_call : (p rule level back : ℕ) → state_at net p ≡ Some (Call rule level back) → IsNullable net (start_of rule)
      → IsNullable net back → IsNullable net p

-- The state leads to t at once: by such an edge, into a rule that it calls, or past a call of a rule that can read nothing.
pub data StepsTo {L : Type 0} (net : Network L) (p : ℕ) : ℕ → Type 0 where
  along : (t : ℕ) → IsEpsilon net p t → StepsTo net p t
  into : (rule level back : ℕ) → state_at net p ≡ Some (Call rule level back) → StepsTo net p (start_of rule)
  past : (rule level back : ℕ) → state_at net p ≡ Some (Call rule level back) → IsNullable net (start_of rule) → StepsTo net p back

-- the start of the rule that the state calls is a number of 32 bits
abbrev pub StartsFit : {L : Type 0} → State L → Type 0
StartsFit (Call rule level back) = start_of rule < 2 ^ 32
StartsFit s = Unit {0}

-- the state leads to t at once, where the answers say which states are nullable
abbrev pub IsNext : {L : Type 0} → List Bool → State L → ℕ → Type 0
IsNext nullable (Call rule level back) t = (t ≡ start_of rule) ⊎ ((slice_get nullable (start_of rule) ≡ Some true) × (t ≡ back))
IsNext nullable s t = Contains (epsilon_targets s) t

-- no state leads above its own stack to itself
abbrev pub NeverAgain : {L : Type 0} → Network L → Type 0
NeverAgain net = (p i : ℕ) (returns : List ℕ) → LeadsOn net (config p i (above_bottom [])) (config p i (above_bottom returns)) → ⊥
