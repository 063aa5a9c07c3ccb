-- What is ahead of a state or of a group: the way by the first edge of each state.
use Rattle.std.specs.Prelude.{◌≡◌, ◌==◌, ℕ, List, Option, Some, None, slice_get, if◌then◌else◌}
use Rattle.g4_net.specs.declared.network.State.{State}
use Rattle.g4_net.specs.declared.network.State.TheVariants.{Decision, End, Edge, Call, Predicate, Level, Action, Empty}
use Rattle.g4_net.specs.Configurations.{Config, Stack, config}
use Rattle.g4_net.specs.Leads.{Reaches}
use Rattle.g4_net.specs.Lookahead.{IsKept, Rest}
use Rattle.g4_net.specs.Network.{ParserNetwork, state_at}
use Rattle.g4_configs.specs.declared.group.Group.{Group}
use Rattle.g4_configs.specs.Configs.{IsOfGroup, IsStacks, View}
use Rattle.g4_closure.specs.declared.ahead.Onward.{Onward}
use Rattle.g4_closure.specs.declared.ahead.Onward.TheVariants as onwards
use Rattle.g4_closure.specs.declared.ahead.Way.{Way}
use Rattle.g4_closure.specs.declared.ahead.Way.TheVariants as ways
use Rattle.g4_closure.specs.Steps.{ReturnedFrom}

-- something is kept of what members of the set lead to
abbrev pub GoesOn : ParserNetwork → (Config → Type 0) → Type 0
GoesOn net C = (d : Config) × Rest net C d

-- to that state, if there is one
abbrev pub to_target : Option ℕ → Onward
to_target (Some t) = onwards.To t
to_target None = onwards.Nowhere

-- where a state leads without a symbol: a decision by its first alternative
abbrev pub onward_by : Option (State (List ℕ)) → Onward
onward_by None = onwards.Nowhere
onward_by (Some (Decision targets)) = to_target (slice_get targets 0)
onward_by (Some (End rule)) = if rule == 0 then onwards.Kept else onwards.Ends rule
onward_by (Some (Edge set t)) = onwards.Kept
onward_by (Some (Call rule level back)) = onwards.Into rule
onward_by (Some (Predicate k t)) = onwards.To t
onward_by (Some (Level q t)) = onwards.To t
onward_by (Some (Action t)) = onwards.To t
onward_by (Some (Empty t)) = onwards.To t

-- whatever its stack, what is at the state leads to what is kept
abbrev pub LeadsToKept : ParserNetwork → ℕ → Type 0
LeadsToKept net p = (i : ℕ) (s : Stack) → (d : Config) × Reaches net (config p i s) d × IsKept net d

-- whatever its stack, what is at the state leads to an end of this rule, with the same stack
pub record LeadsToEnd (net : ParserNetwork) (p rule : ℕ) : Type 0 where
  pub end : ℕ
  pub is_end : state_at net end ≡ Some (End rule)
  pub reaches : (i : ℕ) (s : Stack) → Reaches net (config p i s) (config end i s)

-- where the way from a state ends
abbrev pub IsWay : ParserNetwork → ℕ → Way → Type 0
IsWay net p ways.Kept = LeadsToKept net p
IsWay net p (ways.Ends rule) = LeadsToEnd net p rule
IsWay net p ways.Unknown = Unit {0}

-- The end of the rule leads from the group to each member of the next one.
pub record IsNextReturn (net : ParserNetwork) (v : View) (rule : ℕ) (x next : Group) : Type 0 where
  pub known : IsStacks v next.stacks
  pub returned : (d : Config) → IsOfGroup v next d → ReturnedFrom net rule (IsOfGroup v x) d
