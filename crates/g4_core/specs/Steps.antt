-- What each event changes, and where it is enabled.
use Rattle.std.specs.Prelude.{◌≡◌, ◌≢◌, ◌⊎◌, ℕ, ◌+◌, ◌*◌, ◌<◌, List, [], ◌∷◌, ◌++◌, length, slice_index_or, slice_set, nat_lt, if◌then◌else◌, Option, Some, None, Bool, true, false, replicate}
use mathlib.Core.Option as maybe
use lib.ListN.{get_elem?}
use Rattle.g4_store.specs.declared.automaton.Fact.{Fact}
use Rattle.g4_store.specs.declared.automaton.Fact.TheVariants.{Start, Cell}
use Rattle.g4_store.specs.declared.automaton.Plan.{Plan}
use Rattle.g4_store.specs.declared.path.Looked.{Looked}
use Rattle.g4_store.specs.declared.path.Path.{Path}
use Rattle.g4_store.specs.Numbers.{Among}
use Rattle.g4_store.specs.Paths.{InRows, Within, facts_of}
use Rattle.g4_core.specs.declared.event.Change.{Change}
use Rattle.g4_core.specs.declared.event.Effect.{Effect}
use Rattle.g4_core.specs.declared.event.Effect.TheVariants.{Nothing, Claims, Answers, Adds, Fills, Finishes}
use Rattle.g4_core.specs.declared.event.Entry.{Entry}
use Rattle.g4_core.specs.declared.event.Entry.TheVariants as entry
use Rattle.g4_core.specs.declared.event.Event.{Event}
use Rattle.g4_core.specs.declared.event.Event.TheVariants.{Claim, Probe, LearnRow, LearnCell, Finish}
use Rattle.g4_core.specs.declared.event.Given.{Given}
use Rattle.g4_core.specs.declared.event.Phase.{Phase}
use Rattle.g4_core.specs.declared.event.Phase.TheVariants.{Free, Reading, Learning, Ended}
use Rattle.g4_core.specs.declared.event.Place.{Place}
use Rattle.g4_core.specs.declared.event.Place.TheVariants as place
use Rattle.g4_core.specs.declared.event.Progress.TheVariants.{Waiting, Claimed, Finished}
use Rattle.g4_core.specs.declared.event.Slot.{Slot}
use Rattle.g4_core.specs.declared.event.Slot.TheVariants as slot
use Rattle.g4_core.specs.States.{State, questions_of, IsAt, EndsWith, contents_of, Says, cell_of, Holds}

-- y is Q, and each before it is P
pub record IsFirst {A : Type 0} (P Q : A → Type 0) (xs : List A) (y : A) : Type 0 where
  pub front : List A
  pub rest : List A
  pub split : xs ≡ front ++ y ∷ rest
  pub before : (z : A) → Among z front → P z
  pub here : Q y

-- an answer to a question
abbrev pub given : ℕ → ℕ → ℕ → ℕ → Given
given file question code at = record { file = file; question = question; code = code; at = at }

module _ {C : Type 0} where
  abbrev pub change : ℕ → Phase → Effect C → Change C
  change worker phase effect = record { worker = worker; phase = phase; effect = effect }

  -- what was read held nothing: the question is answered by the path's own end, and the path is left to be learned
  abbrev pub LeftToLearn : ℕ → ℕ → ℕ → Path C → Change C → Type 0
  LeftToLearn worker file question path c =
      (code at : ℕ) × EndsWith path code at
      × (c ≡ change worker (Learning file question false) (Answers (given file question code at)))

  -- What a start holds decides: from a row the worker reads on.
  abbrev pub ReadsStart : ℕ → ℕ → ℕ → Path C → Option ℕ → Change C → Type 0
  ReadsStart worker file question path None c = LeftToLearn worker file question path c
  ReadsStart worker file question path (Some t) c = c ≡ change worker (Reading file question (place.Cell t 0)) Nothing

module _ {N C : Type 0} where
  -- the path's next row that is missing, where there is room
  abbrev pub NextRow : State N C → Path C → C → Type 0
  NextRow s path y = (length s.rows < s.plan.rows) × IsFirst (InRows s.rows) (λ z. InRows s.rows z → ⊥) (contents_of path) y

  -- nothing can be done for a start or a cell: it is filled, or not all its rows are there
  abbrev pub IsClosed : State N C → Fact C → Type 0
  IsClosed s f = Holds s f ⊎ (Within (InRows s.rows) f → ⊥)

  -- a start or a cell can be filled: it is empty, and its rows are there
  abbrev pub IsOpen : State N C → Fact C → Type 0
  IsOpen s f = (Holds s f → ⊥) × Within (InRows s.rows) f

  -- the path's next start or cell that is empty and whose rows are there
  abbrev pub NextCell : State N C → Path C → Fact C → Type 0
  NextCell s path f = IsFirst (IsClosed s) (IsOpen s) (facts_of path) f

  -- nothing is left to learn: no row can be added, and no start or cell filled
  pub record NothingLeft (s : State N C) (path : Path C) : Type 0 where
    pub rows : (length s.rows ≡ s.plan.rows) ⊎ ((y : C) → Among y (contents_of path) → InRows s.rows y)
    pub cells : (f : Fact C) → Among f (facts_of path) → IsClosed s f

  -- where a worker goes for this question, or past the last
  abbrev pub phase_at : State N C → ℕ → ℕ → Phase
  phase_at s file question =
      if nat_lt question (length (questions_of s.files file)) then Reading file question place.Start else Ended file

  -- The phase as it stands, by what is recorded: a worker with nothing left to learn goes on.
  abbrev pub StandsFrom : State N C → Phase → Phase → Type 0
  StandsFrom s Free phase = phase ≡ Free
  StandsFrom s (Reading file question here) phase = phase ≡ Reading file question here
  StandsFrom s (Learning file question begun) phase =
      (path : Path C) × IsAt s.files file question path
      × ((NothingLeft s path × (phase ≡ phase_at s file (question + 1)))
      ⊎ ((NothingLeft s path → ⊥) × (phase ≡ Learning file question begun)))
  StandsFrom s (Ended file) phase = phase ≡ Ended file

  abbrev pub Stands : State N C → ℕ → Phase → Type 0
  Stands s worker phase = (recorded : Phase) × (get_elem? s.workers worker ≡ maybe.some recorded) × StandsFrom s recorded phase

  -- no other worker is in the middle of learning a path
  abbrev pub OthersWait : State N C → ℕ → Type 0
  OthersWait s worker = (other file question : ℕ) → other ≢ worker → Stands s other (Learning file question true) → ⊥

  -- a free worker gets a file that no worker has had
  abbrev pub ClaimChanges : State N C → ℕ → ℕ → Change C → Type 0
  ClaimChanges s worker file c =
      Stands s worker Free × (get_elem? s.progress file ≡ maybe.some Waiting) × (c ≡ change worker (phase_at s file 0) (Claims file))

  -- What a cell holds decides: from a row the worker reads on, and an end is the answer.
  abbrev pub ReadsCell : State N C → ℕ → ℕ → ℕ → Path C → ℕ → Option Entry → Change C → Type 0
  ReadsCell s worker file question path k None c = LeftToLearn worker file question path c
  ReadsCell s worker file question path k (Some (entry.Row t mark)) c =
      c ≡ change worker (Reading file question (place.Cell t (k + 1))) Nothing
  ReadsCell s worker file question path k (Some (entry.End code)) c =
      c ≡ change worker (phase_at s file (question + 1)) (Answers (given file question code k))

  abbrev pub Reads : State N C → ℕ → ℕ → ℕ → Path C → Place → Change C → Type 0
  Reads s worker file question path place.Start c =
      ReadsStart worker file question path (slice_index_or s.starts path.start None) c
  Reads s worker file question path (place.Cell row k) c =
      (l : Looked C) × (get_elem? path.looked.items k ≡ maybe.some l)
      × ReadsCell s worker file question path k (slice_index_or s.cells (cell_of s row l.column) None) c

  -- a reading worker reads one start or cell
  abbrev pub ProbeChanges : State N C → ℕ → Change C → Type 0
  ProbeChanges s worker c =
      (file question : ℕ) × (here : Place) × (path : Path C) × Stands s worker (Reading file question here)
      × IsAt s.files file question path × Reads s worker file question path here c

  -- a learning worker adds the next row
  abbrev pub RowChanges : State N C → ℕ → Change C → Type 0
  RowChanges s worker c =
      (file question : ℕ) × (begun : Bool) × (path : Path C) × (y : C) × Stands s worker (Learning file question begun)
      × OthersWait s worker × IsAt s.files file question path × NextRow s path y
      × (c ≡ change worker (Learning file question true) (Adds y))

  -- what is filled for a start or a cell
  abbrev pub IsSlot : State N C → Fact C → Slot → Type 0
  IsSlot s (Start i y) (slot.Start j t) = (j ≡ i) × (get_elem? s.rows t ≡ maybe.some y)
  IsSlot s (Start i y) (slot.Cell k e) = ⊥
  IsSlot s (Cell x column led) (slot.Start j t) = ⊥
  IsSlot s (Cell x column led) (slot.Cell k e) =
      (row : ℕ) × (get_elem? s.rows row ≡ maybe.some x) × (k ≡ cell_of s row column) × Says s.rows e led

  -- a learning worker fills the next start or cell
  abbrev pub CellChanges : State N C → ℕ → Change C → Type 0
  CellChanges s worker c =
      (file question : ℕ) × (begun : Bool) × (path : Path C) × (f : Fact C) × (filled : Slot)
      × Stands s worker (Learning file question begun) × OthersWait s worker × IsAt s.files file question path
      × NextCell s path f × IsSlot s f filled × (c ≡ change worker (Learning file question true) (Fills filled))

  -- past its last question a worker is free again
  abbrev pub FinishChanges : State N C → ℕ → Change C → Type 0
  FinishChanges s worker c = (file : ℕ) × Stands s worker (Ended file) × (c ≡ change worker Free (Finishes file))

  -- The event is enabled, and this is what it changes.
  abbrev pub Changes : State N C → Event → Change C → Type 0
  Changes s (Claim worker file) c = ClaimChanges s worker file c
  Changes s (Probe worker) c = ProbeChanges s worker c
  Changes s (LearnRow worker) c = RowChanges s worker c
  Changes s (LearnCell worker) c = CellChanges s worker c
  Changes s (Finish worker) c = FinishChanges s worker c

  abbrev pub after_slot : State N C → Slot → State N C
  after_slot s (slot.Start i t) = record s { starts = slice_set s.starts i (Some t) }
  after_slot s (slot.Cell k e) = record s { cells = slice_set s.cells k (Some e) }

  abbrev pub after_effect : State N C → Effect C → State N C
  after_effect s Nothing = s
  after_effect s (Claims file) = record s { progress = slice_set s.progress file Claimed }
  after_effect s (Answers answer) = record s { answers = s.answers ++ answer ∷ [] }
  after_effect s (Adds y) = record s { rows = s.rows ++ y ∷ [] }
  after_effect s (Fills filled) = after_slot s filled
  after_effect s (Finishes file) = record s { progress = slice_set s.progress file Finished }

  -- the state after a change
  abbrev pub changed : State N C → Change C → State N C
  changed s c = record (after_effect s c.effect) { workers = slice_set s.workers c.worker c.phase }

  -- an enabled event leads to a state
  abbrev pub Steps : State N C → Event → State N C → Type 0
  Steps s event t = (c : Change C) × Changes s event c × (t ≡ changed s c)

  -- one that is not enabled changes nothing
  abbrev pub Goes : State N C → Event → State N C → Type 0
  Goes s event t = Steps s event t ⊎ (((c : Change C) → Changes s event c → ⊥) × (t ≡ s))

  -- a whole schedule, which is any list of events
  abbrev pub Runs : State N C → List Event → State N C → Type 0
  Runs s [] t = t ≡ s
  Runs s (event ∷ events) t = (u : State N C) × Goes s event u × Runs u events t

  -- the machine at the start: nothing is learned, no file was had, and all workers are free
  abbrev pub opened : Plan N → List (List (Path C)) → ℕ → State N C
  opened plan files workers =
      record {
        plan = plan;
        files = files;
        rows = [];
        starts = replicate plan.starts None;
        cells = replicate (plan.rows * plan.columns) None;
        progress = replicate (length files) Waiting;
        workers = replicate workers Free;
        answers = [];
      }

-- the worker of an event
abbrev pub worker_of : Event → ℕ
worker_of (Claim worker file) = worker
worker_of (Probe worker) = worker
worker_of (LearnRow worker) = worker
worker_of (LearnCell worker) = worker
worker_of (Finish worker) = worker
