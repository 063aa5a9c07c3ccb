-- What every state that a schedule leads to keeps.
use Rattle.std.specs.Prelude.{◌≡◌, ◌⊎◌, ℕ, ◌*◌, ◌<◌, ◌≤◌, List, [], ◌∷◌, ◌++◌, length, drop}
use mathlib.Core.Option.{some}
use lib.ListN.{get_elem?}
use Rattle.g4_store.specs.declared.automaton.Led.{Led}
use Rattle.g4_store.specs.declared.automaton.Fact.{Fact}
use Rattle.g4_store.specs.declared.automaton.Plan.{Plan}
use Rattle.g4_store.specs.declared.path.Looked.{Looked}
use Rattle.g4_store.specs.declared.path.Path.{Path}
use Rattle.g4_store.specs.Numbers.{Among}
use Rattle.g4_store.specs.Paths.{InRows, Within, Next, facts_of, cells_of}
use Rattle.g4_core.specs.declared.event.Given.{Given}
use Rattle.g4_core.specs.declared.event.Phase.{Phase}
use Rattle.g4_core.specs.declared.event.Phase.TheVariants.{Free, Reading, Learning, Ended}
use Rattle.g4_core.specs.declared.event.Place.{Place}
use Rattle.g4_core.specs.declared.event.Place.TheVariants as place
use Rattle.g4_core.specs.declared.event.Progress.TheVariants.{Finished}
use Rattle.g4_core.specs.States.{State, questions_of, IsAt, EndsWith, IsAsked, IsOnPath, Holds, AreQuestions, IsSound}
use Rattle.g4_core.specs.Steps.{given}

module _ {N C : Type 0} where
  -- there is no room for a row of the start or the cell
  abbrev pub IsBlocked : State N C → Fact C → Type 0
  IsBlocked s f = (length s.rows ≡ s.plan.rows) × (Within (InRows s.rows) f → ⊥)

  -- the path is learned as far as there was room
  abbrev pub IsLearned : State N C → Path C → Type 0
  IsLearned s path = (f : Fact C) → Among f (facts_of path) → Holds s f ⊎ IsBlocked s f

  abbrev pub IsAnswered : State N C → ℕ → ℕ → Type 0
  IsAnswered s file question = (code at : ℕ) × Among (given file question code at) s.answers

  -- each question of the file before this one is answered, and its path is learned
  abbrev pub AreBehind : State N C → ℕ → ℕ → Type 0
  AreBehind s file question =
      (q : ℕ) (path : Path C) → q < question → IsAt s.files file q path → IsLearned s path × IsAnswered s file q

module _ {C : Type 0} where
  -- the answer is that of the question's path
  abbrev pub IsAnswer : List (List (Path C)) → Given → Type 0
  IsAnswer files g = (path : Path C) × IsAt files g.file g.question path × EndsWith path g.code g.at

module _ {N C : Type 0} (starts : N → ℕ → C → Type 0) (leads : N → C → ℕ → Led C → Type 0) where
  -- each step leads on, and the last to an end
  abbrev pub LeadsToEnd : Plan N → C → List (Looked C) → Type 0
  LeadsToEnd p x [] = ⊥
  LeadsToEnd p x (l ∷ ls) =
      (l.column < p.columns) × leads p.net x l.column l.led × Next starts leads l.led (λ y. LeadsToEnd p y ls) (ls ≡ [])

  -- The start and the cells before this place were read, and hold what the path has; the row has the content that comes there.
  pub record IsOnWay (s : State N C) (path : Path C) (row k : ℕ) : Type 0 where
    pub content : C
    pub done : List (Fact C)
    pub here : get_elem? s.rows row ≡ some content
    pub split : facts_of path ≡ done ++ cells_of content (drop k path.looked.items)
    pub onward : LeadsToEnd s.plan content (drop k path.looked.items)
    pub seen : (f : Fact C) → Among f done → Holds s f

  abbrev pub IsPlace : State N C → Path C → Place → Type 0
  IsPlace s path place.Start = Unit {0}
  IsPlace s path (place.Cell row k) = IsOnWay s path row k

  -- what is known of a worker in this phase
  abbrev pub IsPhase : State N C → Phase → Type 0
  IsPhase s Free = Unit {0}
  IsPhase s (Reading file question here) =
      (there : file < length s.files) × (behind : AreBehind s file question)
      × (path : Path C) × IsAt s.files file question path × IsPlace s path here
  IsPhase s (Learning file question begun) =
      (there : file < length s.files) × (behind : AreBehind s file question) × (answered : IsAnswered s file question)
      × (path : Path C) × IsAt s.files file question path
  IsPhase s (Ended file) = (file < length s.files) × AreBehind s file (length (questions_of s.files file))

  pub record IsConsistent (s : State N C) : Type 0 where
    pub asked : AreQuestions starts leads s.plan s.files
    pub sound : IsSound starts leads s
    pub fits : length s.rows ≤ s.plan.rows
    pub starts_fit : length s.starts ≡ s.plan.starts
    pub cells_fit : length s.cells ≡ s.plan.rows * s.plan.columns
    pub files_fit : length s.progress ≡ length s.files
    pub only : (f : Fact C) → Holds s f → IsAsked s.files f
    pub rows : (r : ℕ) (y : C) → get_elem? s.rows r ≡ some y → IsOnPath s.files y
    pub answers : (g : Given) → Among g s.answers → IsAnswer s.files g
    pub phases : (w : ℕ) (phase : Phase) → get_elem? s.workers w ≡ some phase → IsPhase s phase
    pub finished : (file : ℕ) → get_elem? s.progress file ≡ some Finished → AreBehind s file (length (questions_of s.files file))
