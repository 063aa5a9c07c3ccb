-- The tests with which alternatives begin, at a moment of a run.
use Rattle.std.specs.Prelude.{◌≡◌, ◌<◌, ◌↔◌, ℕ, ◌+◌, List, [], Some, slice_get}
use Rattle.g4_net.specs.Configurations.{above_bottom, config}
use Rattle.g4_net.specs.Leads.{IsTarget, Leads}
use Rattle.g4_net.specs.declared.network.State.{State}
use Rattle.g4_net.specs.Network.{ParserNetwork, state_at}
use Rattle.g4_net.specs.Prediction.{IsTestBy}
use Rattle.g4_run.specs.Running.{Passes, Run, Values}
use Rattle.g4_parse.specs.declared.choosing.Tested.{Tested}
use Rattle.g4_parse.specs.declared.choosing.Tested.TheVariants.{Holds, Fails, Untested}

-- what the state is to the tests at this moment: a true one, behind which the others are, a false one, or none
abbrev pub IsTestedAt : ParserNetwork → Values → List ℕ → Run → ℕ → Tested → Type 0
IsTestedAt net values word r p (Holds t) = Passes net values word r p ↔ Passes net values word r t
IsTestedAt net values word r p Fails = Passes net values word r p → ⊥
IsTestedAt net values word r p Untested = IsTestBy (state_at net p) → ⊥

-- an edge of the state leads to the one behind it, and reads nothing
abbrev pub LeadsBehind : ParserNetwork → ℕ → Tested → Type 0
LeadsBehind net p (Holds t) = ((s : State (List ℕ)) × (state_at net p ≡ Some s) × IsTarget s t)
    × Leads net (config p 0 (above_bottom [])) (config t 0 (above_bottom []))
LeadsBehind net p Fails = Unit {0}
LeadsBehind net p Untested = Unit {0}

-- alternative i begins with one of the first n of these states, whose tests are all true
abbrev pub PassesAmong : ParserNetwork → Values → List ℕ → Run → List ℕ → ℕ → ℕ → Type 0
PassesAmong net values word r targets n i =
    (k t : ℕ) × (k < n) × (slice_get targets k ≡ Some t) × (i ≡ k + 1) × Passes net values word r t
