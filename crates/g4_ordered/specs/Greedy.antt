-- Rules without non-greedy parts.
use Rattle.std.specs.Prelude.{◌≡◌, ℕ, List, Some}
use Rattle.g4_net.specs.declared.network.Network.{Network}
use Rattle.g4_net.specs.declared.network.State.{State}
use Rattle.g4_net.specs.declared.network.State.TheVariants.{Decision, Call}
use Rattle.g4_net.specs.Network.{state_at, start_of}
use Rattle.g4_net.specs.Leads.{IsTarget}
use Rattle.g4_ordered.specs.Network.{LexerNetwork, IsReluctant}

-- q is a state of the rule that starts at p, or of a rule that it calls
pub data Within {L : Type 0} (net : Network L) (p : ℕ) : ℕ → Type 0 where
  start : Within net p p
  onward : (q t : ℕ) (s : State L) → Within net p q → state_at net q ≡ Some s → IsTarget s t → Within net p t
  called : (q rule level back : ℕ) → Within net p q → state_at net q ≡ Some (Call rule level back) → Within net p (start_of rule)

-- what starts at p has no non-greedy part, the rules that it calls included
abbrev pub IsGreedy : LexerNetwork → ℕ → Type 0
IsGreedy net p = (q : ℕ) (targets : List ℕ) → Within net p q → state_at net q ≡ Some (Decision targets) → IsReluctant targets → ⊥
