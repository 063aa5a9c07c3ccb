-- What a reached state holds, and what can be filled in it.
use Rattle.std.proofs.Common.{◌≡◌, ◌⊎◌, ℕ, ◌+◌, ◌*◌, ◌<◌, ◌≤◌, List, [], ◌∷◌, ◌++◌, length, get_or, Option, None, Some, MatchOption, Bor, refl, sym, ap, ◌∙◌, subst, inl, inr, ⊎_elim, arith}
use mathlib.Core.Option.{some}
use lib.ListN.{get_elem?}
use Rattle.g4_store.specs.declared.automaton.Led.{Led}
use Rattle.g4_store.specs.declared.automaton.Fact.{Fact}
use Rattle.g4_store.specs.declared.automaton.Fact.TheVariants.{Start, Cell}
use Rattle.g4_store.specs.declared.automaton.Plan.{Plan}
use Rattle.g4_store.specs.declared.path.Path.{Path}
use Rattle.g4_store.specs.Numbers.{Among}
use Rattle.g4_store.specs.Paths.{InRows, IsPath, facts_of}
use Rattle.g4_core.specs.declared.event.Change.{Change}
use Rattle.g4_core.specs.declared.event.Effect.{Effect}
use Rattle.g4_core.specs.declared.event.Effect.TheVariants.{Nothing, Claims, Answers, Adds, Fills, Finishes}
use Rattle.g4_core.specs.declared.event.Entry.{Entry}
use Rattle.g4_core.specs.declared.event.Event.{Event}
use Rattle.g4_core.specs.declared.event.Slot.{Slot}
use Rattle.g4_core.specs.declared.event.Slot.TheVariants as slot
use Rattle.g4_core.specs.States.{State, IsAt, contents_of, Says, cell_of, Holds, IsSound}
use Rattle.g4_core.specs.Steps.{IsClosed, IsOpen, IsSlot, IsFirst, NextRow, NextCell, NothingLeft, Changes, changed, after_slot, after_effect, Goes, Runs, opened}
use Rattle.g4_core.specs.Consistent.{IsConsistent}
use Rattle.g4_core.specs.Laws.{IsReached}
use Rattle.g4_core.proofs.Lists.{in_range, one_there, got, cell_within, among_right}
use Rattle.g4_core.proofs.Readings.{filled_at}
use Rattle.g4_core.proofs.Reached.{opens, onward_says, runs_keep}

module _ {C : Type 0} where
  pub missing_among : (rows : List C) (path : Path C) (y : C) → IsFirst (InRows rows) (λ z. InRows rows z → ⊥) (contents_of path) y
      → ((z : C) → Among z (contents_of path) → InRows rows z) → ⊥
  missing_among rows path y first all =
      first.here (all y (subst (Among y) (sym first.split) (among_right y first.front (y ∷ first.rest) (inl refl))))

module _ {N C : Type 0} where
  slot_plan : (s : State N C) (filled : Slot) → (after_slot s filled).plan ≡ s.plan
  slot_plan s (slot.Start i t) = refl
  slot_plan s (slot.Cell k e) = refl

  slot_files : (s : State N C) (filled : Slot) → (after_slot s filled).files ≡ s.files
  slot_files s (slot.Start i t) = refl
  slot_files s (slot.Cell k e) = refl

  effect_plan : (s : State N C) (effect : Effect C) → (after_effect s effect).plan ≡ s.plan
  effect_plan s Nothing = refl
  effect_plan s (Claims file) = refl
  effect_plan s (Answers answer) = refl
  effect_plan s (Adds y) = refl
  effect_plan s (Fills filled) = slot_plan s filled
  effect_plan s (Finishes file) = refl

  effect_files : (s : State N C) (effect : Effect C) → (after_effect s effect).files ≡ s.files
  effect_files s Nothing = refl
  effect_files s (Claims file) = refl
  effect_files s (Answers answer) = refl
  effect_files s (Adds y) = refl
  effect_files s (Fills filled) = slot_files s filled
  effect_files s (Finishes file) = refl

  -- a schedule with one event more
  runs_on : (s : State N C) (events : List Event) (t : State N C) (event : Event) (u : State N C) → Runs s events t → Goes t event u
      → Runs s (events ++ event ∷ []) u
  runs_on s [] t event u e g = (u, subst (λ (x : State N C). Goes x event u) e g, refl)
  runs_on s (first ∷ events) t event u (v, goes, runs) g = (v, goes, runs_on v events t event u runs g)

  -- the next row, where there is room
  pub next_found : (s : State N C) (path : Path C) (r : Option (Bor C)) → length s.rows < s.plan.rows
      → MatchOption r ((y : C) → Among y (contents_of path) → InRows s.rows y)
      (λ y. IsFirst (InRows s.rows) (λ z. InRows s.rows z → ⊥) (contents_of path) y.now)
      → MatchOption r ((y : C) → NextRow s path y → ⊥) (λ y. NextRow s path y.now)
  next_found s path None room all = λ y next. missing_among s.rows path y next.1 all
  next_found s path (Some y) room first = (room, first)

  -- what can be filled next is not closed
  pub next_closed : (s : State N C) (path : Path C) (f : Fact C) → ((f : Fact C) → Among f (facts_of path) → IsClosed s f)
      → NextCell s path f → ⊥
  next_closed s path f all next =
      ⊎_elim (λ h. next.here.0 h) (λ h. h next.here.1)
      (all f (subst (Among f) (sym next.split) (among_right f next.front (f ∷ next.rest) (inl refl))))

  pub slot_left : (s : State N C) (path : Path C) (f : Fact C) → NextCell s path f → NothingLeft s path → ⊥
  slot_left s path f next left = next_closed s path f left.cells next

module _ {N C : Type 0} (starts : N → ℕ → C → Type 0) (leads : N → C → ℕ → Led C → Type 0) where
  -- an event leads from a reached state to one
  pub reached_on : (s : State N C) → IsReached starts leads s.plan s.files s → (c : Change C) → (event : Event) × Changes s event c
      → (u : State N C) → u ≡ changed s c → IsReached starts leads u.plan u.files u
  reached_on s r c (event, changes) u e =
      let next : IsReached starts leads s.plan s.files (changed s c) = record {
        asked = r.asked;
        workers = r.workers;
        events = r.events ++ event ∷ [];
        runs = runs_on (opened s.plan s.files r.workers) r.events s event (changed s c) r.runs (inl (c, changes, refl));
      } in
      subst (λ (v : State N C). IsReached starts leads v.plan v.files v) (sym e)
      (subst (λ (q : Plan N × List (List (Path C))). IsReached starts leads q.0 q.1 (changed s c))
      (λ i. (sym (effect_plan s c.effect) i, sym (effect_files s c.effect) i)) next)

module _ {N C : Type 0} (starts : N → ℕ → C → Type 0) (leads : N → C → ℕ → Led C → Type 0)
    (one_start : (net : N) (i : ℕ) (x y : C) → starts net i x → starts net i y → x ≡ y)
    (one_led : (net : N) (x : C) (s : ℕ) (a b : Led C) → leads net x s a → leads net x s b → a ≡ b)
    (s : State N C) (reached : IsReached starts leads s.plan s.files s) where
  pub consistent : IsConsistent starts leads s
  consistent =
      (runs_keep starts leads one_start one_led (opened s.plan s.files reached.workers)
      (opens starts leads s.plan s.files reached.workers reached.asked) reached.events s reached.runs).consistent

  pub start_held : (path : Path C) → IsPath starts leads s.plan path → (t : ℕ) → get_or s.starts path.start None ≡ Some t
      → Holds s (Start path.start path.content)
  start_held path valid t e =
      let at = filled_at s.starts path.start t e in
      let found = consistent.sound.begun path.start t at in
      let same : found.0 ≡ path.content = one_start s.plan.net path.start found.0 path.content found.2 valid.1 in
      (t, at, found.1 ∙ ap some same)

  pub start_open : (i t : ℕ) (y : C) → get_or s.starts i None ≡ None → get_elem? s.rows t ≡ some y
      → IsOpen s (Start i y) × IsSlot s (Start i y) (slot.Start i t)
  start_open i t y e at = (
    (
      (λ (h : Holds s (Start i y)).
          let bad : None ≡ Some h.0 = sym e ∙ got s.starts i (Some h.0) None h.1 in
          let no : ⊥ = cc in
          no),
      (t, at),
    ),
    (refl, at),
  )

  pub cell_held : (row column : ℕ) (x : C) (led : Led C) (e : Entry) → column < s.plan.columns → leads s.plan.net x column led
      → get_elem? s.rows row ≡ some x → get_or s.cells (cell_of s row column) None ≡ Some e → Holds s (Cell x column led)
  cell_held row column x led e lt right there is =
      let at = filled_at s.cells (cell_of s row column) e is in
      let found = consistent.sound.cells row column e lt at in
      let same : found.0 ≡ x = one_there s.rows row found.0 x found.2 there in
      let led_is : found.1 ≡ led =
      one_led s.plan.net x column found.1 led (subst (λ (y : C). leads s.plan.net y column found.1) same found.4) right in
      (lt, row, e, there, at, subst (Says s.rows e) led_is found.3)

  pub cell_open : (row column k : ℕ) (x : C) (led : Led C) (e : Entry) → column < s.plan.columns → get_elem? s.rows row ≡ some x
      → get_or s.cells (cell_of s row column) None ≡ None → k ≡ cell_of s row column → Says s.rows e led
      → IsOpen s (Cell x column led) × IsSlot s (Cell x column led) (slot.Cell k e)
  cell_open row column k x led e lt there none is says = (
    (
      (λ (h : Holds s (Cell x column led)).
          let same : h.1 ≡ row = consistent.sound.differ h.1 row x h.3 there in
          let at : get_elem? s.cells (cell_of s row column) ≡ some (Some h.2) =
          subst (λ (r : ℕ). get_elem? s.cells (cell_of s r column) ≡ some (Some h.2)) same h.4 in
          let bad : None ≡ Some h.2 = sym none ∙ got s.cells (cell_of s row column) (Some h.2) None at in
          let no : ⊥ = cc in
          no),
      ((row, there), onward_says s.rows e led says),
    ),
    (row, there, is, says),
  )

  pub cell_exists : (row column : ℕ) (x : C) → column < s.plan.columns → get_elem? s.rows row ≡ some x
      → length s.cells ≤ cell_of s row column → ⊥
  cell_exists row column x lt there le =
      let a = in_range s.rows row x there in
      let fits = consistent.fits in
      let cells = consistent.cells_fit in
      let less : row < s.plan.rows = omega arith in
      let within = cell_within s.plan.columns s.plan.rows row column less lt in
      omega arith

  -- where there is no room, there are as many rows as there may be
  pub full : (length s.rows < s.plan.rows → ⊥) → length s.rows ≡ s.plan.rows
  full none = let fits = consistent.fits in omega arith

  -- a path of a question is one of the automaton
  pub valid : (file question : ℕ) (path : Path C) → IsAt s.files file question path → IsPath starts leads s.plan path
  valid file question path at = (consistent.asked file question path at).0
