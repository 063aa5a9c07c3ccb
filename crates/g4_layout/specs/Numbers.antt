-- What is written of the states of rules: the number of the alternative, as the grammar writes it, that begins there.
use Rattle.std.specs.Prelude.{◌≡◌, ◌≤◌, ◌<◌, ◌⊎◌, ℕ, ◌+◌, ◌-◌, ◌^◌, List, [], ◌∷◌, length, map, Option, Some, None}
use Rattle.g4_source.specs.declared.element.Repeat.TheVariants.{Once, Optional, Star, Plus}
use Rattle.g4_source.specs.Elements.{atom, block, Elements, empty, then, Alternatives, none, or}
use Rattle.g4_grammar.specs.declared.step.Numbering.{Numbering}
use Rattle.g4_grammar.specs.declared.step.Step.{Step}
use Rattle.g4_net.specs.declared.network.Network.{Network}
use Rattle.g4_net.specs.declared.network.State.{State}
use Rattle.g4_net.specs.declared.network.State.TheVariants.{Decision, End, Edge, Call, Predicate, Level, Action, Empty}
use Rattle.g4_net.specs.Network.{state_at, start_of, end_of, written_at, IsFirst}
use Rattle.g4_layout.specs.Decisions.{number_of}
use Rattle.g4_layout.specs.Size.{states_of_rule}

-- these are the numbers of the alternatives with which rule k starts: one at its start itself, several at the first states of
-- the decision there
abbrev pub StartsAreWritten : {L : Type 0} → Network L → ℕ → List ℕ → Type 0
StartsAreWritten net k [] = written_at net (start_of k) ≡ 0
StartsAreWritten net k (i ∷ []) = written_at net (start_of k) ≡ i
StartsAreWritten net k (i ∷ j ∷ more) = (firsts : List ℕ) × (state_at net (start_of k) ≡ Some (Decision firsts))
    × (map (written_at net) firsts ≡ i ∷ j ∷ more) × (written_at net (start_of k) ≡ 0)

-- one of these alternatives begins at the state
abbrev pub StartsAt : {L : Type 0} → Network L → ℕ → List ℕ → ℕ → Type 0
StartsAt net k [] p = ⊥
StartsAt net k (i ∷ []) p = p ≡ start_of k
StartsAt net k (i ∷ j ∷ more) p = (n : ℕ) × IsFirst net (start_of k) n p

-- the number at any other state of a rule of `count` alternatives: at level q alternative `count + 1 - q` begins
abbrev pub number_by : {L : Type 0} → ℕ → Option (State L) → ℕ
number_by count (Some (Level q t)) = count + 1 - q
number_by count (Some (Decision targets)) = 0
number_by count (Some (End rule)) = 0
number_by count (Some (Edge label t)) = 0
number_by count (Some (Call rule level back)) = 0
number_by count (Some (Predicate k t)) = 0
number_by count (Some (Action t)) = 0
number_by count (Some (Empty t)) = 0
number_by count None = 0

-- The numbers of rule k, its states other than its start and end being those from n up to m.
pub record IsNumbered {L : Type 0} (net : Network L) (k : ℕ) (numbering : Numbering) (n m : ℕ) : Type 0 where
  pub starts : StartsAreWritten net k numbering.starts
  pub end : written_at net (end_of k) ≡ 0
  pub others : (p : ℕ) → n ≤ p → p < m → (StartsAt net k numbering.starts p → ⊥)
      → written_at net p ≡ number_by numbering.count (state_at net p)

-- the numbers of the rules from number k on, whose states after the starts and ends of all rules are those from n on
abbrev pub AreNumbered : {L : Type 0} → Network L → ℕ → ℕ → List (Alternatives (Step L)) → List Numbering → Type 0
AreNumbered net k n [] [] = Unit {0}
AreNumbered net k n [] (numbering ∷ others) = ⊥
AreNumbered net k n (xs ∷ more) [] = ⊥
AreNumbered net k n (xs ∷ more) (numbering ∷ others) = IsNumbered net k numbering n (n + states_of_rule xs)
    × AreNumbered net (k + 1) (n + states_of_rule xs) more others

-- the added rule has one alternative
abbrev pub added_numbering : Numbering
added_numbering = record { starts = 1 ∷ []; count = 1 }

-- the first of the elements is a block, taken once, of n alternatives
abbrev pub BeginsWithBlock : {A : Type 0} → Elements A → ℕ → Type 0
BeginsWithBlock empty n = ⊥
BeginsWithBlock (then (atom a) xs) n = ⊥
BeginsWithBlock (then (block label Once ys) xs) n = number_of ys ≡ n
BeginsWithBlock (then (block label (Optional sign) ys) xs) n = ⊥
BeginsWithBlock (then (block label (Star sign) ys) xs) n = ⊥
BeginsWithBlock (then (block label (Plus sign) ys) xs) n = ⊥

-- there is one alternative, and it begins with such a block
abbrev pub OneBeginsWithBlock : {A : Type 0} → Alternatives A → ℕ → Type 0
OneBeginsWithBlock none n = ⊥
OneBeginsWithBlock (or x none) n = BeginsWithBlock x n
OneBeginsWithBlock (or x (or y more)) n = ⊥

-- A rule of these alternatives can start with alternatives of these numbers: with one, or with as many as it has itself or the block
-- with which its only one begins.
abbrev pub CanStartWith : {A : Type 0} → Alternatives A → List ℕ → Type 0
CanStartWith xs [] = ⊥
CanStartWith xs (i ∷ []) = Unit {0}
CanStartWith xs (i ∷ j ∷ more) = (number_of xs ≡ length (i ∷ j ∷ more)) ⊎ OneBeginsWithBlock xs (length (i ∷ j ∷ more))

-- the numbering fits the alternatives of the rule, and its numbers are small enough
abbrev pub StartsFit : {L : Type 0} → Alternatives (Step L) → Numbering → Type 0
StartsFit xs numbering = CanStartWith xs numbering.starts × (numbering.count + 1 < 2 ^ 32)

-- each numbering fits the alternatives of its rule
abbrev pub NumberingsFit : {L : Type 0} → List (Alternatives (Step L)) → List Numbering → Type 0
NumberingsFit [] [] = Unit {0}
NumberingsFit [] (numbering ∷ others) = ⊥
NumberingsFit (xs ∷ more) [] = ⊥
NumberingsFit (xs ∷ more) (numbering ∷ others) = StartsFit xs numbering × NumberingsFit more others
