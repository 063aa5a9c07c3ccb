-- Which alternatives of a decision may be taken under a condition, which is a number. Where they begin with no tests but levels, it is the
-- level at which the open rule was called. Else its binary digits, the least first, say which of the alternatives that begin with tests may
-- be taken, in their order.
use Rattle.std.specs.Prelude.{◌≡◌, ◌≤◌, ◌<◌, ◌↔◌, ◌/◌, ◌%◌, ◌^◌, ℕ, zero, suc, List, [], ◌∷◌, true, Option, Some, None, if◌then◌else◌}
use Rattle.g4_net.specs.declared.network.State.{State}
use Rattle.g4_net.specs.declared.network.State.TheVariants.{Decision, End, Edge, Call, Predicate, Level, Action, Empty}
use Rattle.g4_net.specs.Network.{ParserNetwork, state_at, IsFirst}
use Rattle.g4_guards.specs.Tests.{HasFewTests, HasNoPredicate, is_test, tests_among}

-- the state is not one that a rule called at this level must not pass
abbrev pub MeetsBy : ℕ → Option (State (List ℕ)) → Type 0
MeetsBy n (Some (Level q t)) = n ≤ q
MeetsBy n (Some (Decision targets)) = Unit {0}
MeetsBy n (Some (End rule)) = Unit {0}
MeetsBy n (Some (Edge set t)) = Unit {0}
MeetsBy n (Some (Call rule level back)) = Unit {0}
MeetsBy n (Some (Predicate k t)) = Unit {0}
MeetsBy n (Some (Action t)) = Unit {0}
MeetsBy n (Some (Empty t)) = Unit {0}
MeetsBy n None = Unit {0}

-- the number without the digit of a first state, where that is a test
abbrev pub after_digit : Option (State (List ℕ)) → ℕ → ℕ
after_digit o n = if is_test o then n / 2 else n

-- the digit of a first state does not forbid it: it is 1, where the state is a test
abbrev pub LetsBy : ℕ → Option (State (List ℕ)) → Type 0
LetsBy n o = is_test o ≡ true → n % 2 ≡ 1

-- Of these first states, that of alternative i is no test, or the digit of the number that is its own is 1. Alternatives count from 1.
abbrev pub HasDigit : ParserNetwork → List ℕ → ℕ → ℕ → Type 0
HasDigit net [] n i = ⊥
HasDigit net (t ∷ ts) n zero = ⊥
HasDigit net (t ∷ ts) n (suc zero) = LetsBy n (state_at net t)
HasDigit net (t ∷ ts) n (suc (suc i)) = HasDigit net ts (after_digit (state_at net t) n) (suc i)

-- alternative i of the decision, which begins at t, may be taken under the condition
pub data MayBegin (net : ParserNetwork) (d n i t : ℕ) : Type 0 where
  at_level : HasNoPredicate net d → MeetsBy n (state_at net t) → MayBegin net d n i t
  by_digit : (targets : List ℕ) → (HasNoPredicate net d → ⊥) → state_at net d ≡ Some (Decision targets) → HasDigit net targets n i
      → MayBegin net d n i t

-- alternative i of the decision may be taken under the condition
abbrev pub AllowedAt : ParserNetwork → ℕ → ℕ → ℕ → Type 0
AllowedAt net d n i = (t : ℕ) × IsFirst net d i t × MayBegin net d n i t

-- under both conditions the same alternatives may be taken
abbrev pub AllowSame : ParserNetwork → ℕ → ℕ → ℕ → Type 0
AllowSame net d m n = (i : ℕ) → AllowedAt net d m i ↔ AllowedAt net d n i

-- The guard of a decision under a condition: the least condition under which the same alternatives may be taken.
pub record IsGuard (net : ParserNetwork) (d condition guard : ℕ) : Type 0 where
  pub same : AllowSame net d guard condition
  pub least : (n : ℕ) → AllowSame net d n condition → guard ≤ n

-- The number is a condition of the decision. Any is, where its alternatives begin with no tests but levels. Else few of them begin with
-- tests, and the number has no more digits than these.
pub data IsCondition (net : ParserNetwork) (d n : ℕ) : Type 0 where
  any_level : HasNoPredicate net d → IsCondition net d n
  few_digits : (targets : List ℕ) → (HasNoPredicate net d → ⊥) → HasFewTests net d targets → n < 2 ^ tests_among net targets
      → IsCondition net d n

-- the state is a decision
abbrev pub IsDecision : ParserNetwork → ℕ → Type 0
IsDecision net d = (targets : List ℕ) × (state_at net d ≡ Some (Decision targets))

-- of the decision's alternatives, exactly those are in A that may be taken under this condition
abbrev pub AreAllowedAt : ParserNetwork → ℕ → ℕ → (ℕ → Type 0) → Type 0
AreAllowedAt net d condition A = (i t : ℕ) → IsFirst net d i t → A i ↔ AllowedAt net d condition i
