-- The alternatives of a rule by their numbers, and where they begin.
use Rattle.std.specs.Prelude.{◌≡◌, ◌≤◌, ℕ, ◌+◌, List, [], ◌∷◌, Some, slice_get, length}
use Rattle.g4_source.specs.Elements.{Elements, Alternatives, none, or}
use Rattle.g4_source.specs.Rules.{alternatives_of}
use Rattle.g4_grammar.specs.StepRules.{StepRule}
use Rattle.g4_grammar.specs.declared.step.Numbering.{Numbering}
use Rattle.g4_grammar.specs.declared.step.Step.{Step}
use Rattle.g4_net.specs.declared.network.Network.{Network}
use Rattle.g4_net.specs.declared.network.State.TheVariants.{Level}
use Rattle.g4_net.specs.Network.{state_at, start_of, IsFirst}
use Rattle.g4_layout.specs.Numbers.{added_numbering}
use Rattle.g4_leftrec.specs.Rewriting.{numberings}

-- the alternatives as a list
abbrev pub each_of : {A : Type 0} → Alternatives A → List (Elements A)
each_of none = []
each_of (or x xs) = x ∷ each_of xs

-- x is alternative i; alternatives count from 1
abbrev pub IsAlternative : {A : Type 0} → Alternatives A → ℕ → Elements A → Type 0
IsAlternative xs i x = (j : ℕ) × (slice_get (each_of xs) j ≡ Some x) × (i ≡ j + 1)

-- alternative i of the rule begins at the state: the only one at the rule's start, of several each at its first state there
abbrev pub BeginsAt : {L : Type 0} → Network L → ℕ → Alternatives (Step L) → ℕ → ℕ → Type 0
BeginsAt net rule none i p = ⊥
BeginsAt net rule (or x none) i p = (i ≡ 1) × (p ≡ start_of rule)
BeginsAt net rule (or x (or y more)) i p = IsFirst net (start_of rule) i p

-- the start of a rule that starts with several alternatives, where a decision between these is; the numberings are those of the
-- rules by their numbers
abbrev pub IsOuterStart : List Numbering → ℕ → Type 0
IsOuterStart numberings p = (k : ℕ) × (x : Numbering) × (slice_get numberings k ≡ Some x) × (2 ≤ length x.starts) × (p ≡ start_of k)

-- x is alternative i of rule k, as the rules are written; rules count from 1
abbrev pub IsWrittenAs : List StepRule → ℕ → ℕ → Elements (Step (List ℕ)) → Type 0
IsWrittenAs rules k i x = (j : ℕ) × (r : StepRule) × (k ≡ j + 1) × (slice_get rules j ≡ Some r) × IsAlternative (alternatives_of r) i x

-- the state is no level
abbrev pub IsNoLevel : {L : Type 0} → Network L → ℕ → Type 0
IsNoLevel net p = (q t : ℕ) → state_at net p ≡ Some (Level q t) → ⊥

-- the numberings of the rules by their numbers, the added rule first
abbrev pub all_numberings : List StepRule → List Numbering
all_numberings rules = added_numbering ∷ numberings rules
