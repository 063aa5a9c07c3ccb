-- The states of a rule.
use Rattle.std.specs.Prelude.{◌≡◌, ◌<◌, ◌↔◌, ℕ, List, Some, Contains, length}
use Rattle.std.specs.List.Sorted.{IsStrictlyIncreasing}
use Rattle.g4_net.specs.declared.network.State.{State}
use Rattle.g4_net.specs.Leads.{IsTarget}
use Rattle.g4_net.specs.Network.{ParserNetwork, state_at, start_of, end_of}

-- An edge of state p leads to q inside the rule: an edge of a call leads to the state to which the call returns, not into the
-- rule that is called.
abbrev pub Follows : ParserNetwork → ℕ → ℕ → Type 0
Follows net p q = (s : State (List ℕ)) × (state_at net p ≡ Some s) × IsTarget s q

-- p is the start of the rule, its end, or what follows from a state of the rule
pub data IsOfRule (net : ParserNetwork) (rule : ℕ) : ℕ → Type 0 where
  at_start : IsOfRule net rule (start_of rule)
  at_end : IsOfRule net rule (end_of rule)
  further : (p q : ℕ) → IsOfRule net rule p → Follows net p q → IsOfRule net rule q

-- The list has the states of the rule that are states of the network, least first and each once: none for a rule that starts
-- past the last state.
pub record AreStatesOf (net : ParserNetwork) (rule : ℕ) (states : List ℕ) : Type 0 where
  pub rising : IsStrictlyIncreasing states
  pub exactly : (p : ℕ) → Contains states p ↔ (IsOfRule net rule p × (p < length net.states))
