-- Which states keep configurations between two symbols.
use Rattle.std.specs.Prelude.{ℕ, ◌==◌, List, Bool, true, false, Option, Some, None}
use Rattle.g4_net.specs.declared.network.State.{State}
use Rattle.g4_net.specs.declared.network.State.TheVariants.{Decision, End, Edge, Call, Predicate, Level, Action, Empty}
use Rattle.g4_net.specs.Network.{ParserNetwork, state_at}

-- the state keeps a configuration
abbrev pub keeps_by : Option (State (List ℕ)) → Bool
keeps_by (Some (Edge set t)) = true
keeps_by (Some (End rule)) = rule == 0
keeps_by (Some (Decision targets)) = false
keeps_by (Some (Call rule level back)) = false
keeps_by (Some (Predicate k t)) = false
keeps_by (Some (Level q t)) = false
keeps_by (Some (Action t)) = false
keeps_by (Some (Empty t)) = false
keeps_by None = false

-- the state of this state and alternative keeps a configuration
abbrev pub keeps_pair : ParserNetwork → ℕ × ℕ → Bool
keeps_pair net q = keeps_by (state_at net q.0)
