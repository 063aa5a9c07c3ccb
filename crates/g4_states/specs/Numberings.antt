-- The numbers of rules while they are written, all states being made.
use Rattle.std.specs.Prelude.{◌≡◌, ◌≢◌, ◌≤◌, ◌<◌, ◌⊎◌, ℕ, ◌+◌, ◌^◌, List, [], ◌∷◌, length, Some, slice_get, slice_index, slice_set}
use Rattle.g4_grammar.specs.declared.step.Numbering.{Numbering}
use Rattle.g4_layout.specs.Numbers.{IsNumbered}
use Rattle.g4_net.specs.declared.network.Network.{Network}
use Rattle.g4_net.specs.declared.network.State.{State}
use Rattle.g4_net.specs.declared.network.State.TheVariants.{Decision}
use Rattle.g4_net.specs.Network.{start_of, written_at}
use Rattle.g4_states.specs.Drafts.{IsRising}
use Rattle.g4_states.specs.Rules.{IsBefore}

-- what is written, these numbers being at these places
abbrev pub marked : List ℕ → List ℕ → List ℕ → List ℕ
marked [] numbers written = written
marked (p ∷ places) [] written = written
marked (p ∷ places) (i ∷ numbers) written = marked places numbers (slice_set written p i)

-- A rule of this number can start with these alternatives: of several, its start is a decision of as many, whose first states
-- are some of those from n up to m.
abbrev pub StartsAreLaid : {L : Type 0} → List (State L) → ℕ → List ℕ → ℕ → ℕ → Type 0
StartsAreLaid states rule [] n m = ⊥
StartsAreLaid states rule (i ∷ []) n m = Unit {0}
StartsAreLaid states rule (i ∷ j ∷ more) n m = (firsts : List ℕ) × (slice_get states (start_of rule) ≡ Some (Decision firsts))
    × (length firsts ≡ length (i ∷ j ∷ more)) × IsRising n firsts m

-- the numbers of a rule can be written, its states other than its start and end being those from n up to m
pub record CanBeNumbered {L : Type 0} (states : List (State L)) (rule : ℕ) (numbering : Numbering) (n m : ℕ) : Type 0 where
  pub up : n ≤ m
  pub within : m ≤ length states
  pub few : numbering.count + 1 < 2 ^ 32
  pub starts : StartsAreLaid states rule numbering.starts n m

-- the same of the rules from this number on, whose states are those from n on and end at these places, the last of them at the last
abbrev pub CanAllBeNumbered : {L : Type 0} → List (State L) → ℕ → ℕ → List ℕ → List Numbering → Type 0
CanAllBeNumbered states rule n [] [] = n ≡ length states
CanAllBeNumbered states rule n [] (numbering ∷ others) = ⊥
CanAllBeNumbered states rule n (m ∷ ends) [] = ⊥
CanAllBeNumbered states rule n (m ∷ ends) (numbering ∷ others) = CanBeNumbered states rule numbering n m
    × CanAllBeNumbered states (rule + 1) m ends others

-- the network has the numbers of the rules before this one
abbrev pub SharesNumbers : {L : Type 0} → Network L → List ℕ → ℕ → ℕ → Type 0
SharesNumbers net written rule n = (p : ℕ) → IsBefore rule n p → p < length written → written_at net p ≡ slice_index written p

-- the numbers of a rule are written, its states other than its start and end being those after the old ones up to m
pub record RuleIsNumbered {L : Type 0} (states : List (State L)) (old new : List ℕ) (rule : ℕ) (numbering : Numbering) (m : ℕ) :
    Type 0 where
  pub size : length new ≡ m
  pub kept : (p : ℕ) → p < length old → p ≢ start_of rule → slice_index new p ≡ slice_index old p
  pub numbered : (net : Network L) → net.states ≡ states → SharesNumbers net new (rule + 1) (length old)
      → IsNumbered net rule numbering (length old) m

-- the numbers of the rules from this number on, whose states are those from n on and end at these places
abbrev pub HaveNumbers : {L : Type 0} → Network L → ℕ → ℕ → List ℕ → List Numbering → Type 0
HaveNumbers net rule n [] [] = Unit {0}
HaveNumbers net rule n [] (numbering ∷ others) = ⊥
HaveNumbers net rule n (m ∷ ends) [] = ⊥
HaveNumbers net rule n (m ∷ ends) (numbering ∷ others) = IsNumbered net rule numbering n m × HaveNumbers net (rule + 1) m ends others

-- The numbers of the rules from the first up to this one are written, the rest being the last of all; what else was written is kept.
pub record AreWrittenBefore {L : Type 0} (states : List (State L)) (old now : List ℕ) (first rule : ℕ) (ends rest_ends : List ℕ)
    (numberings rest : List Numbering) : Type 0 where
  pub longer : length old ≤ length now
  pub kept : (p : ℕ) → p < length old → (p < start_of first) ⊎ (start_of rule ≤ p) → slice_index now p ≡ slice_index old p
  pub numbered : (net : Network L) → net.states ≡ states → SharesNumbers net now rule (length old)
      → HaveNumbers net rule (length now) rest_ends rest → HaveNumbers net first (length old) ends numberings

-- The numbers of the rules from the first on are written, whose states are those after the old numbers and end at these places, all
-- numbers being written then; what else was written is kept.
pub record RulesAreNumbered {L : Type 0} (states : List (State L)) (old new : List ℕ) (first : ℕ) (ends : List ℕ)
    (numberings : List Numbering) : Type 0 where
  pub size : length new ≡ length states
  pub kept : (p : ℕ) → p < length old → (p < start_of first) ⊎ (start_of (first + length numberings) ≤ p)
      → slice_index new p ≡ slice_index old p
  pub numbered : (net : Network L) → net.states ≡ states → net.written ≡ new → HaveNumbers net first (length old) ends numberings
