-- Walks through the states of one rule. They read letters of any type: what an edge's label takes, and for a call one letter
-- that names the rule, so a walk goes over a call to its return state. They pass some levels and stop at the others.
use Rattle.std.specs.Prelude.{◌≡◌, ℕ, ◌+◌, List, [], ◌∷◌, ◌++◌, Option, Some, None, Contains}
use Rattle.g4_grammar.specs.declared.step.Step.{Step}
use Rattle.g4_grammar.specs.declared.step.Step.TheVariants as steps
use Rattle.g4_net.specs.declared.network.Network.{Network}
use Rattle.g4_net.specs.declared.network.State.{State}
use Rattle.g4_net.specs.declared.network.State.TheVariants.{Decision, End, Edge, Call, Predicate, Level, Action, Empty}
use Rattle.g4_net.specs.Network.{state_at}

-- no level
abbrev pub NoLevel : ℕ → Type 0
NoLevel q = ⊥

-- every level
abbrev pub AnyLevel : ℕ → Type 0
AnyLevel q = Unit {0}

module _ {L C : Type 0} (Takes : L → C → Type 0) (Names : ℕ → C → Type 0) (Passes : ℕ → Type 0) where
  -- the words of a step over letters: one that its label takes, or one that names the rule that it calls; a level that is not
  -- passed has none, and any other step reads the empty word
  abbrev pub ReadsLetter : Step L → List C → Type 0
  ReadsLetter (steps.Edge label) w = (c : C) × Takes label c × (w ≡ c ∷ [])
  ReadsLetter (steps.Call rule level) w = (c : C) × Names rule c × (w ≡ c ∷ [])
  ReadsLetter (steps.Predicate k) w = w ≡ []
  ReadsLetter (steps.Level q) w = Passes q × (w ≡ [])
  ReadsLetter steps.Action w = w ≡ []
  ReadsLetter steps.Empty w = w ≡ []

  -- Such a state has an edge to t that reads the word. A call leads to its return state, and a rule's end nowhere.
  abbrev pub MovesBy : Option (State L) → ℕ → List C → Type 0
  MovesBy None t w = ⊥
  MovesBy (Some (Decision targets)) t w = Contains targets t × (w ≡ [])
  MovesBy (Some (End rule)) t w = ⊥
  MovesBy (Some (Edge label u)) t w = (t ≡ u) × ReadsLetter (steps.Edge label) w
  MovesBy (Some (Call rule level back)) t w = (t ≡ back) × ReadsLetter (steps.Call rule level) w
  MovesBy (Some (Predicate k u)) t w = (t ≡ u) × ReadsLetter (steps.Predicate k) w
  MovesBy (Some (Level q u)) t w = (t ≡ u) × ReadsLetter (steps.Level q) w
  MovesBy (Some (Action u)) t w = (t ≡ u) × ReadsLetter steps.Action w
  MovesBy (Some (Empty u)) t w = (t ≡ u) × ReadsLetter steps.Empty w

  -- a walk of this many steps from one state to another, which reads the word
  pub data Walk (net : Network L) : ℕ → ℕ → ℕ → List C → Type 0 where
    stays : (p : ℕ) → Walk net 0 p p []
    goes : (k p t q : ℕ) (u v w : List C) → MovesBy (state_at net p) t u → Walk net k t q v → w ≡ u ++ v → Walk net (k + 1) p q w

  -- a walk of any number of steps from one state to another, which reads the word
  abbrev pub WalksTo : Network L → ℕ → ℕ → List C → Type 0
  WalksTo net p q w = (k : ℕ) × Walk net k p q w
