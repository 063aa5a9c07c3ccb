-- States of the machine: a plan, files of questions, the automaton that is learned so far, and workers.
use Rattle.std.specs.Prelude.{◌≡◌, ◌⊎◌, ℕ, ◌+◌, ◌*◌, ◌<◌, List, [], ◌∷◌, ◌++◌, length, slice_index_or, Option, Some}
use mathlib.Core.Option as maybe
use lib.ListN.{get_elem?}
use Rattle.g4_store.specs.declared.automaton.Led.{Led}
use Rattle.g4_store.specs.declared.automaton.Led.TheVariants.{Row, End}
use Rattle.g4_store.specs.declared.automaton.Fact.{Fact}
use Rattle.g4_store.specs.declared.automaton.Fact.TheVariants.{Start, Cell}
use Rattle.g4_store.specs.declared.automaton.Plan.{Plan}
use Rattle.g4_store.specs.declared.path.Looked.{Looked}
use Rattle.g4_store.specs.declared.path.Path.{Path}
use Rattle.g4_store.specs.Numbers.{Among}
use Rattle.g4_store.specs.Paths.{IsPath, facts_of}
use Rattle.g4_core.specs.declared.event.Entry.{Entry}
use Rattle.g4_core.specs.declared.event.Entry.TheVariants as entry
use Rattle.g4_core.specs.declared.event.Given.{Given}
use Rattle.g4_core.specs.declared.event.Phase.{Phase}
use Rattle.g4_core.specs.declared.event.Progress.{Progress}

-- The rows are contents; a start and a cell hold nothing, or an entry, which names a row by its number. Cells lie row by row.
pub record State (N C : Type 0) : Type 0 where
  pub plan : Plan N
  pub files : List (List (Path C))
  pub rows : List C
  pub starts : List (Option ℕ)
  pub cells : List (Option Entry)
  pub progress : List Progress
  pub workers : List Phase
  pub answers : List Given

module _ {C : Type 0} where
  -- the questions of a file are paths
  abbrev pub questions_of : List (List (Path C)) → ℕ → List (Path C)
  questions_of files file = slice_index_or files file []

  -- this question of this file has this path
  abbrev pub IsAt : List (List (Path C)) → ℕ → ℕ → Path C → Type 0
  IsAt files file question path = get_elem? (questions_of files file) question ≡ maybe.some path

  -- the path ends with the end of this code, after so many columns
  abbrev pub EndsWith : Path C → ℕ → ℕ → Type 0
  EndsWith path code at =
      (front : List (Looked C)) × (column : ℕ)
      × (path.looked.items ≡ front ++ record { column = column; led = End code } ∷ []) × (length front ≡ at)

  -- the rows that are led to, in order
  abbrev pub with_target : Led C → List C → List C
  with_target (Row y mark) ys = y ∷ ys
  with_target (End code) ys = ys

  abbrev pub targets_of : List (Looked C) → List C
  targets_of [] = []
  targets_of (l ∷ ls) = with_target l.led (targets_of ls)

  -- the contents on a path, in order
  abbrev pub contents_of : Path C → List C
  contents_of path = path.content ∷ targets_of path.looked.items

  -- the start or the cell is one of the path of some question
  abbrev pub IsAsked : List (List (Path C)) → Fact C → Type 0
  IsAsked files f = (file question : ℕ) × (path : Path C) × IsAt files file question path × Among f (facts_of path)

  -- the content is on the path of some question
  abbrev pub IsOnPath : List (List (Path C)) → C → Type 0
  IsOnPath files y = (file question : ℕ) × (path : Path C) × IsAt files file question path × Among y (contents_of path)

  -- the entry says what is led to
  abbrev pub Says : List C → Entry → Led C → Type 0
  Says rows (entry.Row t n) (Row y mark) = (get_elem? rows t ≡ maybe.some y) × (n ≡ mark)
  Says rows (entry.Row t n) (End code) = ⊥
  Says rows (entry.End k) (Row y mark) = ⊥
  Says rows (entry.End k) (End code) = k ≡ code

module _ {N C : Type 0} where
  -- the number of the cell of a row and a column
  abbrev pub cell_of : State N C → ℕ → ℕ → ℕ
  cell_of s row column = row * s.plan.columns + column

  -- the start or the cell is filled, and with this
  abbrev pub Holds : State N C → Fact C → Type 0
  Holds s (Start i y) = (t : ℕ) × (get_elem? s.starts i ≡ maybe.some (Some t)) × (get_elem? s.rows t ≡ maybe.some y)
  Holds s (Cell x column led) =
      (within : column < s.plan.columns) × (row : ℕ) × (e : Entry) × (get_elem? s.rows row ≡ maybe.some x)
      × (get_elem? s.cells (cell_of s row column) ≡ maybe.some (Some e)) × Says s.rows e led

module _ {N C : Type 0} (starts : N → ℕ → C → Type 0) (leads : N → C → ℕ → Led C → Type 0) where
  -- a question's path: each step leads on as the automaton says, and the last to an end
  abbrev pub IsQuestion : Plan N → Path C → Type 0
  IsQuestion p path = IsPath starts leads p path × ((code at : ℕ) × EndsWith path code at)

  -- each question of each file is one
  abbrev pub AreQuestions : Plan N → List (List (Path C)) → Type 0
  AreQuestions p files = (file question : ℕ) (path : Path C) → IsAt files file question path → IsQuestion p path

  -- Rows differ; each is that of a start, or an earlier row leads to it; each filled start and cell names what the automaton says.
  pub record IsSound (s : State N C) : Type 0 where
    pub differ : (r q : ℕ) (x : C) → get_elem? s.rows r ≡ maybe.some x → get_elem? s.rows q ≡ maybe.some x → r ≡ q
    pub follow : (r : ℕ) (x : C) → get_elem? s.rows r ≡ maybe.some x
        → ((i : ℕ) × (i < s.plan.starts) × starts s.plan.net i x)
        ⊎ ((q column mark : ℕ) × (y : C) × (q < r) × (get_elem? s.rows q ≡ maybe.some y) × (column < s.plan.columns)
        × leads s.plan.net y column (Row x mark))
    pub begun : (i t : ℕ) → get_elem? s.starts i ≡ maybe.some (Some t)
        → (y : C) × (get_elem? s.rows t ≡ maybe.some y) × starts s.plan.net i y
    pub cells : (r column : ℕ) (e : Entry) → column < s.plan.columns → get_elem? s.cells (cell_of s r column) ≡ maybe.some (Some e)
        → (x : C) × (led : Led C) × (get_elem? s.rows r ≡ maybe.some x) × Says s.rows e led × leads s.plan.net x column led
