-- States from which a rule can end without a symbol read.
use Rattle.std.specs.Prelude.{◌≡◌, ◌⊎◌, ℕ, List, Option, Some, None, Contains, slice_get}
use Rattle.g4_net.specs.declared.network.State.{State}
use Rattle.g4_net.specs.declared.network.State.TheVariants.{Decision, End, Edge, Call, Predicate, Level, Action, Empty}
use Rattle.g4_net.specs.Network.{ParserNetwork, start_of}
use Rattle.g4_closure.specs.Ahead.{LeadsToEnd}
use Rattle.g4_closure.specs.declared.exploring.Mark.{Mark}
use Rattle.g4_closure.specs.declared.exploring.Mark.TheVariants.{Ends}

-- the state is marked as one from which the rule can end
abbrev pub IsEnd : List Mark → ℕ → ℕ → Type 0
IsEnd marks p rule = (before : ℕ) × (slice_get marks p ≡ Some (Ends before rule))

-- each state that is marked so leads to the end of the rule, whatever its stack
abbrev pub AreEnds : ParserNetwork → List Mark → Type 0
AreEnds net marks = (p rule : ℕ) → IsEnd marks p rule → LeadsToEnd net p rule

-- what the state leads to is marked so that the rule can end from the state too
abbrev pub EndsFrom : List Mark → Option (State (List ℕ)) → ℕ → Type 0
EndsFrom marks None rule = ⊥
EndsFrom marks (Some (Decision targets)) rule = (t : ℕ) × Contains targets t × IsEnd marks t rule
EndsFrom marks (Some (End ended)) rule = rule ≡ ended
EndsFrom marks (Some (Edge set t)) rule = ⊥
EndsFrom marks (Some (Call called level back)) rule = (inner : ℕ) × IsEnd marks (start_of called) inner × IsEnd marks back rule
EndsFrom marks (Some (Predicate k t)) rule = IsEnd marks t rule
EndsFrom marks (Some (Level q t)) rule = IsEnd marks t rule
EndsFrom marks (Some (Action t)) rule = IsEnd marks t rule
EndsFrom marks (Some (Empty t)) rule = IsEnd marks t rule

-- each mark is as before, but that of the state may be the new one
abbrev pub IsMarked : List Mark → ℕ → Mark → List Mark → Type 0
IsMarked old q mark new = (p : ℕ) → (slice_get new p ≡ slice_get old p) ⊎ ((p ≡ q) × (slice_get new p ≡ Some mark))

-- the ends that are marked were so before, but for one more, which what its state leads to shows
abbrev pub IsMoreEnds : List Mark → ℕ → Option (State (List ℕ)) → List Mark → Type 0
IsMoreEnds old q state new = (p rule : ℕ) → IsEnd new p rule → IsEnd old p rule ⊎ ((p ≡ q) × EndsFrom old state rule)
