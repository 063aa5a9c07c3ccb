-- Which of the first states of a decision may be passed at a level, and what they begin with.
use Rattle.std.specs.Prelude.{◌≡◌, ◌<◌, ℕ, ◌+◌, List, [], ◌∷◌, Bool, true, false, Option, Some, None, slice_get}
use Rattle.g4_net.specs.declared.network.State.{State}
use Rattle.g4_net.specs.declared.network.State.TheVariants.{Decision, End, Edge, Call, Predicate, Level, Action, Empty}
use Rattle.g4_net.specs.Network.{ParserNetwork, state_at}
use Rattle.g4_guards.specs.Levels.{MeetsBy, after_digit}

-- where the alternatives of a decision begin
abbrev pub firsts_by : Option (State (List ℕ)) → List ℕ
firsts_by (Some (Decision targets)) = targets
firsts_by (Some (End rule)) = []
firsts_by (Some (Edge set t)) = []
firsts_by (Some (Call rule level back)) = []
firsts_by (Some (Predicate k t)) = []
firsts_by (Some (Level q t)) = []
firsts_by (Some (Action t)) = []
firsts_by (Some (Empty t)) = []
firsts_by None = []

-- alternative i begins with one of the first n of these states, which may be passed at the level
abbrev pub MeetsAmong : ParserNetwork → ℕ → List ℕ → ℕ → ℕ → Type 0
MeetsAmong net level targets n i =
    (k t : ℕ) × (k < n) × (slice_get targets k ≡ Some t) × (i ≡ k + 1) × MeetsBy level (state_at net t)

-- whether the state is a predicate
abbrev pub is_predicate : Option (State (List ℕ)) → Bool
is_predicate (Some (Predicate k t)) = true
is_predicate (Some (Level q t)) = false
is_predicate (Some (Decision targets)) = false
is_predicate (Some (End rule)) = false
is_predicate (Some (Edge set t)) = false
is_predicate (Some (Call rule level back)) = false
is_predicate (Some (Action t)) = false
is_predicate (Some (Empty t)) = false
is_predicate None = false

-- whether it is one, or a level that leads to one
abbrev pub begins_by : ParserNetwork → Option (State (List ℕ)) → Bool
begins_by net (Some (Predicate k t)) = true
begins_by net (Some (Level q t)) = is_predicate (state_at net t)
begins_by net (Some (Decision targets)) = false
begins_by net (Some (End rule)) = false
begins_by net (Some (Edge set t)) = false
begins_by net (Some (Call rule level back)) = false
begins_by net (Some (Action t)) = false
begins_by net (Some (Empty t)) = false
begins_by net None = false

-- the number without the digits of these first states
abbrev pub after_digits : ParserNetwork → List ℕ → ℕ → ℕ
after_digits net [] n = n
after_digits net (t ∷ ts) n = after_digits net ts (after_digit (state_at net t) n)
