-- Which states call a rule, and where they return.
use Rattle.std.specs.Prelude.{ℕ, List, Option, Some, None, cond, ◌==◌, map}
use Rattle.std.specs.List.{filter_map, range_with_len}
use Rattle.g4_net.specs.declared.network.State.{State}
use Rattle.g4_net.specs.declared.network.State.TheVariants.{Decision, End, Edge, Call, Predicate, Level, Action, Empty}

-- the state to which the state returns, where it calls the rule
abbrev pub return_of : {L : Type 0} → ℕ → State L → Option ℕ
return_of rule (Decision targets) = None
return_of rule (End ended) = None
return_of rule (Edge label t) = None
return_of rule (Call called level back) = cond (called == rule) (Some back) None
return_of rule (Predicate k t) = None
return_of rule (Level q t) = None
return_of rule (Action t) = None
return_of rule (Empty t) = None

-- the return states of the rule's calls, in order of the states that call
abbrev pub returns_of : {L : Type 0} → List (State L) → ℕ → List ℕ
returns_of states rule = filter_map (return_of rule) states

-- for each of `count` rules the return states of its calls
abbrev pub callers_of : {L : Type 0} → List (State L) → ℕ → List (List ℕ)
callers_of states count = map (returns_of states) (range_with_len 0 count)
