-- Loops in a network, and where the levels of left-recursive rules are.
use Rattle.std.specs.Prelude.{◌≡◌, ◌<◌, ◌≤◌, ◌⊎◌, ℕ, List, Option, Some, Contains, length}
use Rattle.g4_net.specs.Leads.{IsTarget}
use Rattle.g4_net.specs.Network.{ParserNetwork, state_at, start_of, end_of}
use Rattle.g4_net.specs.Proper.{IsOf}
use Rattle.g4_net.specs.declared.network.State.{State}
use Rattle.g4_net.specs.declared.network.State.TheVariants.{Decision, End, Call, Predicate, Level, Action, Empty}

-- A loop of rule k: its decision u leads to turns, whose states are those between u and the exit, and to the exit. From the turns
-- each edge leads to a state of the turns or back to u, and the exit leads to the end of the rule.
pub record IsLoop (net : ParserNetwork) (k u exit : ℕ) : Type 0 where
  pub targets : List ℕ
  pub decides : state_at net u ≡ Some (Decision targets)
  pub leaves : Contains targets exit
  pub turns_or_leaves : (t : ℕ) → Contains targets t → (t ≡ exit) ⊎ ((u < t) × (t < exit))
  pub stays : (p t : ℕ) (s : State (List ℕ)) → u < p → p < exit → state_at net p ≡ Some s → IsTarget s t → (u ≤ t) × (t < exit)
  pub endless : (p rule : ℕ) → u < p → p < exit → state_at net p ≡ Some (End rule) → ⊥
  pub to_end : state_at net exit ≡ Some (Empty (end_of k))
  pub end : state_at net (end_of k) ≡ Some (End k)

-- the state's only edge goes to t and reads nothing
abbrev pub IsSilentBy : Option (State (List ℕ)) → ℕ → Type 0
IsSilentBy (Some (Predicate k u)) t = t ≡ u
IsSilentBy (Some (Action u)) t = t ≡ u
IsSilentBy (Some (Empty u)) t = t ≡ u
IsSilentBy _ t = ⊥

-- such edges lead from the one state to the other
pub data LeadsSilently (net : ParserNetwork) : ℕ → ℕ → Type 0 where
  there : (q : ℕ) → LeadsSilently net q q
  onward : (p t q : ℕ) → IsSilentBy (state_at net p) t → LeadsSilently net t q → LeadsSilently net p q

-- each call of rule k at a level above 0 returns, by edges that read nothing, to p
abbrev pub ReturnsTo : ParserNetwork → ℕ → ℕ → Type 0
ReturnsTo net k p = (c level back : ℕ) → state_at net c ≡ Some (Call k level back) → 1 ≤ level → LeadsSilently net back p

-- Levels are only in loops: only decisions lead to them, and no rule starts with one. A decision of rule k that leads to one is that
-- of a loop of rule k, to which each call of rule k at a level above 0 returns.
pub record HasLoops (net : ParserNetwork) : Type 0 where
  pub decided : (p t q v : ℕ) (s : State (List ℕ)) → state_at net p ≡ Some s → IsTarget s t → state_at net t ≡ Some (Level q v) →
      (targets : List ℕ) × (s ≡ Decision targets)
  pub starts : (p rule level back q v : ℕ) → state_at net p ≡ Some (Call rule level back) →
      state_at net (start_of rule) ≡ Some (Level q v) → ⊥
  pub loops : (k p t q v : ℕ) (s : State (List ℕ)) → k < length net.callers → IsOf net k p → state_at net p ≡ Some s → IsTarget s t →
      state_at net t ≡ Some (Level q v) → (exit : ℕ) × IsLoop net k p exit × ReturnsTo net k p
