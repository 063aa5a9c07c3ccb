-- Which states may lead to levels.
use Rattle.std.specs.Prelude.{ℕ, List, Bool, true, false, Option, Some, None}
use Rattle.g4_net.specs.declared.network.State.{State}
use Rattle.g4_net.specs.declared.network.State.TheVariants.{Decision, End, Edge, Call, Predicate, Level, Action, Empty}
use Rattle.g4_net.specs.Network.{ParserNetwork, state_at}

-- whether the state is a level
abbrev pub is_level : Option (State (List ℕ)) → Bool
is_level (Some (Level q t)) = true
is_level (Some (Decision targets)) = false
is_level (Some (End rule)) = false
is_level (Some (Edge set t)) = false
is_level (Some (Call rule level back)) = false
is_level (Some (Predicate k t)) = false
is_level (Some (Action t)) = false
is_level (Some (Empty t)) = false
is_level None = false

-- whether it may lead to one, and is no decision
abbrev pub leads_to_level : ParserNetwork → State (List ℕ) → Bool
leads_to_level net (Decision targets) = false
leads_to_level net (End rule) = false
leads_to_level net (Edge set t) = is_level (state_at net t)
leads_to_level net (Call rule level back) = true
leads_to_level net (Predicate k t) = is_level (state_at net t)
leads_to_level net (Level q t) = is_level (state_at net t)
leads_to_level net (Action t) = is_level (state_at net t)
leads_to_level net (Empty t) = is_level (state_at net t)
