-- Outcomes and the places of their files, and what was done with a state.
use Rattle.std.specs.Prelude.{◌≡◌, ◌<◌, ◌≤◌, ◌⊎◌, ℕ, suc, List, [], ◌∷◌, false, Option, Some, All, Contains, length, map, slice_get}
use Rattle.g4_workers.specs.declared.worker.Numbered.{Numbered}
use Rattle.g4_workers.specs.declared.worker.Worker.{Worker}

module _ {O : Type 0} (files : ℕ) (IsOutcome : ℕ → O → Type 0) where
  -- an outcome of the file of its number
  abbrev pub IsOutcomeOf : Numbered O → Type 0
  IsOutcomeOf n = (n.file < files) × IsOutcome n.file n.outcome

  -- each outcome is one of its file
  abbrev pub AreOutcomesOf : List (Numbered O) → Type 0
  AreOutcomesOf ns = All IsOutcomeOf ns

  -- in each place is no outcome, or one of the file of this place
  pub record AreSlots (slots : List (Option O)) : Type 0 where
    pub long : length slots ≡ files
    pub each : (file : ℕ) (outcome : O) → slice_get slots file ≡ Some (Some outcome) → IsOutcome file outcome

  -- outcome k is one of file k, for each file
  pub record AreInPlace (outcomes : List O) : Type 0 where
    pub long : length outcomes ≡ files
    pub each : (file : ℕ) (outcome : O) → slice_get outcomes file ≡ Some outcome → IsOutcome file outcome

-- the files of outcomes, in order
abbrev pub files_in : {O : Type 0} → List (Numbered O) → List ℕ
files_in ns = map (λ n. n.file) ns

-- the files of these numbers have a place in which there is an outcome
abbrev pub IsPlaced : {O : Type 0} → List (Option O) → ℕ → Type 0
IsPlaced {O} slots file = (outcome : O) × (slice_get slots file ≡ Some (Some outcome))

module _ {S : Type 0} (HasDone : List ℕ → List ℕ → S → Type 0) where
  -- the state has begun as the one of this number: nothing is done with it
  abbrev pub HasBegun : ℕ → S → Type 0
  HasBegun number state = HasDone (number ∷ []) [] state

  -- the caller's state has number 0, and those of the workers count from 1
  abbrev pub HaveBegun : S → List S → Type 0
  HaveBegun own states = HasBegun 0 own × ((i : ℕ) (state : S) → slice_get states i ≡ Some state → HasBegun (suc i) state)

  -- a worker whose files are these, with outcomes of them; unless it lost one, these are all that it did with its state
  pub record IsReady {O : Type 0} (files : ℕ) (IsOutcome : ℕ → O → Type 0) (w : Worker S O) : Type 0 where
    pub dealt : w.hand.deal.files ≡ files
    pub outcomes : AreOutcomesOf files IsOutcome w.outcomes.items
    pub done : w.lost ≡ false → HasDone (suc w.number ∷ []) (files_in w.outcomes.items) w.state

  -- The states of all numbers up to this one are joined in the state, but for those that are left, and with them exactly some files were
  -- worked on, these among them.
  pub record HasJoined (jobs files : ℕ) (IsLeft : ℕ → Type 0) (IsDone : ℕ → Type 0) (state : S) : Type 0 where
    pub numbers : List ℕ
    pub done : List ℕ
    pub has : HasDone numbers done state
    pub all : (n : ℕ) → n ≤ jobs → Contains numbers n ⊎ IsLeft n
    pub each : (k : ℕ) → IsDone k → Contains done k
    pub within : (k : ℕ) → Contains done k → k < files

  -- all states are joined in the state, and with them each file was worked on
  abbrev pub HasAll : ℕ → ℕ → S → Type 0
  HasAll jobs files state = HasJoined jobs files (λ n. ⊥) (λ k. k < files) state

-- the numbers of the states of workers
abbrev pub numbers_of : {S O : Type 0} → List (Worker S O) → List ℕ
numbers_of workers = map (λ w. suc w.number) workers
