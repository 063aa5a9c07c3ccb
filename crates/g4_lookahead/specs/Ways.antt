-- From which states a rule can end without a symbol read and with no other rule opened.
use Rattle.std.specs.Prelude.{◌≡◌, ℕ, suc, ◌-◌, List, Contains, Option, Some, None, length, slice_get}
use Rattle.g4_net.specs.declared.network.State.{State}
use Rattle.g4_net.specs.declared.network.State.TheVariants.{Decision, End, Edge, Call, Predicate, Level, Action, Empty}
use Rattle.g4_net.specs.Network.{ParserNetwork, state_at}
use Rattle.g4_lookahead.specs.declared.ways.Way.{Way}
use Rattle.g4_lookahead.specs.declared.ways.Way.TheVariants.{Ended, To, Stuck}

-- an edge of the state leads there, reads nothing and opens no rule
abbrev pub IsSilent : State (List ℕ) → ℕ → Type 0
IsSilent (Decision targets) t = Contains targets t
IsSilent (End rule) t = ⊥
IsSilent (Edge set u) t = ⊥
IsSilent (Call rule level back) t = ⊥
IsSilent (Predicate k u) t = t ≡ u
IsSilent (Level q u) t = t ≡ u
IsSilent (Action u) t = t ≡ u
IsSilent (Empty u) t = t ≡ u

-- such edges lead from the state to the end of a rule
pub data EndsAtOnce (net : ParserNetwork) : ℕ → Type 0 where
  at_end : (p rule : ℕ) → state_at net p ≡ Some (End rule) → EndsAtOnce net p
  along : (p t : ℕ) (s : State (List ℕ)) → state_at net p ≡ Some s → IsSilent s t → EndsAtOnce net t → EndsAtOnce net p

-- to that state, if there is one
abbrev pub to_target : Option ℕ → Way
to_target (Some t) = To t
to_target None = Stuck

-- Where the state is left that reads nothing and opens no rule: a decision by its last alternative.
abbrev pub way_by : Option (State (List ℕ)) → Way
way_by None = Stuck
way_by (Some (Decision targets)) = to_target (slice_get targets (length targets - 1))
way_by (Some (End rule)) = Ended
way_by (Some (Edge set t)) = Stuck
way_by (Some (Call rule level back)) = Stuck
way_by (Some (Predicate k t)) = To t
way_by (Some (Level q t)) = To t
way_by (Some (Action t)) = To t
way_by (Some (Empty t)) = To t

-- of the first n states on this way, with the one that it begins at, one is the end of a rule
pub data EndsWithin (net : ParserNetwork) : ℕ → ℕ → Type 0 where
  ended : (n p : ℕ) → way_by (state_at net p) ≡ Ended → EndsWithin net (suc n) p
  onward : (n p t : ℕ) → way_by (state_at net p) ≡ To t → EndsWithin net n t → EndsWithin net (suc n) p
