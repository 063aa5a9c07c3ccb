-- The states of rules, and the stacks that a run can have.
use Rattle.std.specs.Prelude.{◌≡◌, ◌<◌, ℕ, List, [], ◌∷◌, Some, length}
use Rattle.g4_net.specs.declared.network.Network.{Network}
use Rattle.g4_net.specs.declared.network.State.{State}
use Rattle.g4_net.specs.declared.network.State.TheVariants.{End}
use Rattle.g4_net.specs.Network.{state_at, start_of, IsReturn}
use Rattle.g4_net.specs.Leads.{IsTarget}

-- the state is one of the rule: edges lead to it from the rule's start, that of a call leading to where the call returns
pub data IsOf {L : Type 0} (net : Network L) (rule : ℕ) : ℕ → Type 0 where
  start : IsOf net rule (start_of rule)
  further : (p t : ℕ) (s : State L) → IsOf net rule p → state_at net p ≡ Some s → IsTarget s t → IsOf net rule t

-- Each rule of the network has no end but its own: an end that edges lead to from where rule k starts is one of rule k. Of numbers
-- that are no rule's this is not asked, since where such a rule would start there can be a state in the middle of another.
abbrev pub EndsAreOwn : {L : Type 0} → Network L → Type 0
EndsAreOwn net = (k p r : ℕ) → k < length net.callers → IsOf net k p → state_at net p ≡ Some (End r) → r ≡ k

-- Return states, newest first, are proper for a state where each is the return state of a call of the rule of what is above
-- it, and the last of these states is in the added rule.
pub data IsProper {L : Type 0} (net : Network L) : ℕ → List ℕ → Type 0 where
  at_bottom : (p : ℕ) → IsOf net 0 p → IsProper net p []
  called : (rule p t : ℕ) (more : List ℕ) → IsOf net rule p → IsReturn net rule t → IsProper net t more → IsProper net p (t ∷ more)
