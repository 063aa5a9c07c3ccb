-- What is said of whole schedules.
use Rattle.std.specs.Prelude.{◌≡◌, ◌↔◌, ℕ, ◌<◌, ◌≤◌, List, length}
use mathlib.Core.Option.{some}
use lib.ListN.{get_elem?}
use Rattle.g4_store.specs.declared.automaton.Led.{Led}
use Rattle.g4_store.specs.declared.automaton.Fact.{Fact}
use Rattle.g4_store.specs.declared.automaton.Plan.{Plan}
use Rattle.g4_store.specs.declared.path.Path.{Path}
use Rattle.g4_store.specs.Numbers.{Among}
use Rattle.g4_store.specs.Paths.{InRows}
use Rattle.g4_core.specs.declared.event.Event.{Event}
use Rattle.g4_core.specs.declared.event.Progress.TheVariants.{Finished}
use Rattle.g4_core.specs.States.{State, IsAt, IsAsked, IsOnPath, Holds, AreQuestions}
use Rattle.g4_core.specs.Steps.{Runs, opened}
use Rattle.g4_core.specs.Consistent.{IsLearned, IsAnswered}

module _ {N C : Type 0} (starts : N → ℕ → C → Type 0) (leads : N → C → ℕ → Led C → Type 0) where
  -- a schedule leads from the start, with files of questions, to this state
  pub record IsReached (plan : Plan N) (files : List (List (Path C))) (s : State N C) : Type 0 where
    pub asked : AreQuestions starts leads plan files
    pub workers : ℕ
    pub events : List Event
    pub runs : Runs (opened plan files workers) events s

module _ {N C : Type 0} where
  -- each file is finished
  abbrev pub AllFinished : State N C → Type 0
  AllFinished s = (file : ℕ) → file < length s.files → get_elem? s.progress file ≡ some Finished

  -- the contents on all paths are at most as many as there may be rows
  abbrev pub HaveRoom : Plan N → List (List (Path C)) → Type 0
  HaveRoom plan files = (xs : List C) × (length xs ≤ plan.rows) × ((y : C) → IsOnPath files y → Among y xs)

  -- each question is answered, and its path learned as far as there was room
  abbrev pub AreDone : List (List (Path C)) → State N C → Type 0
  AreDone files s = (file question : ℕ) (path : Path C) → IsAt files file question path → IsLearned s path × IsAnswered s file question

  -- the automaton is the union of the paths of all questions
  pub record IsUnion (files : List (List (Path C))) (s : State N C) : Type 0 where
    pub facts : (f : Fact C) → Holds s f ↔ IsAsked files f
    pub rows : (y : C) → InRows s.rows y ↔ IsOnPath files y
