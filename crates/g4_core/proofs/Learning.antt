-- Adding a row, and filling a start or a cell.
use Rattle.std.proofs.Common.{◌≡◌, ◌⊎◌, ℕ, ◌<◌, List, [], ◌∷◌, ◌++◌, length, set, Option, Some, sym, ap, ◌∙◌, subst, inl, inr, ⊎_elim, arith}
use native.Mathlib.Decide.{ℕ_discrete}
use mathlib.Core.Logic.{dite}
use mathlib.Core.Option.{some}
use lib.ListN.{get_elem?}
use Rattle.g4_store.specs.declared.automaton.Led.{Led}
use Rattle.g4_store.specs.declared.automaton.Led.TheVariants.{Row}
use Rattle.g4_store.specs.declared.automaton.Fact.{Fact}
use Rattle.g4_store.specs.declared.automaton.Fact.TheVariants.{Start, Cell}
use Rattle.g4_store.specs.declared.path.Path.{Path}
use Rattle.g4_store.specs.Paths.{InRows, IsPath}
use Rattle.g4_core.specs.declared.event.Entry.{Entry}
use Rattle.g4_core.specs.declared.event.Phase.{Phase}
use Rattle.g4_core.specs.States.{State, Says, cell_of, Holds, IsSound}
use Rattle.g4_core.specs.Steps.{NextRow}
use Rattle.g4_core.proofs.Lists.{in_range, one_there, set_other, set_at, longer, snoc_at, same_cell}
use Rattle.g4_core.proofs.Routes.{IsRight, content_follows}
use Rattle.g4_core.proofs.Extending.{Parts, moved, Extends, says_one, says_kept}

module _ {N C : Type 0} where
  -- the state with one row more
  abbrev pub with_row : State N C → C → List Phase → Parts C
  with_row s y workers =
      record {
        rows = s.rows ++ y ∷ [];
        starts = s.starts;
        cells = s.cells;
        progress = s.progress;
        workers = workers;
        answers = s.answers;
      }

  -- the state with other starts, or other cells
  abbrev pub with_filled : State N C → List (Option ℕ) → List (Option Entry) → List Phase → Parts C
  with_filled s begun cells workers =
      record {
        rows = s.rows;
        starts = begun;
        cells = cells;
        progress = s.progress;
        workers = workers;
        answers = s.answers;
      }

module _ {N C : Type 0} (starts : N → ℕ → C → Type 0) (leads : N → C → ℕ → Led C → Type 0)
    (one_start : (net : N) (i : ℕ) (x y : C) → starts net i x → starts net i y → x ≡ y)
    (one_led : (net : N) (x : C) (s : ℕ) (a b : Led C) → leads net x s a → leads net x s b → a ≡ b) where
  -- what a filled start or cell holds is what the automaton says
  pub holds_right : (s : State N C) → IsSound starts leads s → length s.starts ≡ s.plan.starts → (f : Fact C) → Holds s f
      → IsRight starts leads s.plan f
  holds_right s sound size (Start i y) (t, at, row) =
      let found = sound.begun i t at in
      let lt = in_range s.starts i (Some t) at in (
        (omega arith),
        subst (starts s.plan.net i) (one_there s.rows t found.0 y found.1 row) found.2,
      )
  holds_right s sound size (Cell x column led) (lt, row, e, there, at, says) =
      let found = sound.cells row column e lt at in
      let same : found.0 ≡ x = one_there s.rows row found.0 x found.2 there in
      let led_is : found.1 ≡ led = says_one s.rows e found.1 led found.3 says in
      (lt, subst (λ (q : C × Led C). leads s.plan.net q.0 column q.1) (λ i. (same i, led_is i)) found.4)

  pub row_extends : (s : State N C) (y : C) (workers : List Phase) → length s.rows < s.plan.rows → Extends s (with_row s y workers)
  row_extends s y workers room =
      record {
        rows = λ r x at. longer s.rows (y ∷ []) r x at;
        holds = holds;
        blocked = λ f b. let full = b.0 in absurd (omega arith);
        answers = λ g m. m;
      }
    where
      holds : (f : Fact C) → Holds s f → Holds (moved s (with_row s y workers)) f
      holds (Start i z) (t, at, row) = (t, at, longer s.rows (y ∷ []) t z row)
      holds (Cell x column led) (lt, row, e, there, at, says) = (
        lt,
        row,
        e,
        longer s.rows (y ∷ []) row x there,
        at,
        says_kept s.rows (s.rows ++ y ∷ []) (λ r z h. longer s.rows (y ∷ []) r z h) e led says,
      )

  -- a new row fills no start and no cell
  pub row_only : (s : State N C) (y : C) (workers : List Phase) → IsSound starts leads s → (f : Fact C)
      → Holds (moved s (with_row s y workers)) f → Holds s f
  row_only s y workers sound (Start i z) (t, at, row) =
      let found = sound.begun i t at in
      let same : found.0 ≡ z = one_there (s.rows ++ y ∷ []) t found.0 z (longer s.rows (y ∷ []) t found.0 found.1) row in
      (t, at, found.1 ∙ ap some same)
  row_only s y workers sound (Cell x column led) (lt, row, e, there, at, says) =
      let more : (r : ℕ) (z : C) → get_elem? s.rows r ≡ some z → get_elem? (s.rows ++ y ∷ []) r ≡ some z =
      λ r z h. longer s.rows (y ∷ []) r z h in
      let found = sound.cells row column e lt at in
      let same : found.0 ≡ x = one_there (s.rows ++ y ∷ []) row found.0 x (more row found.0 found.2) there in
      let led_is : found.1 ≡ led =
      says_one (s.rows ++ y ∷ []) e found.1 led (says_kept s.rows (s.rows ++ y ∷ []) more e found.1 found.3) says in
      (lt, row, e, found.2 ∙ ap some same, at, subst (Says s.rows e) led_is found.3)

  pub row_sound : (s : State N C) (y : C) (workers : List Phase) → IsSound starts leads s → (path : Path C)
      → IsPath starts leads s.plan path → NextRow s path y → IsSound starts leads (moved s (with_row s y workers))
  row_sound s y workers sound path valid next =
      let rows = s.rows ++ y ∷ [] in
      let more : (r : ℕ) (z : C) → get_elem? s.rows r ≡ some z → get_elem? rows r ≡ some z = λ r z h. longer s.rows (y ∷ []) r z h in
      let fresh = next.1.here in
      record {
        differ = λ r q x a b. ⊎_elim
            (λ (a : get_elem? s.rows r ≡ some x). ⊎_elim
            (λ (b : get_elem? s.rows q ≡ some x). sound.differ r q x a b)
            (λ (b : (q ≡ length s.rows) × (y ≡ x)). absurd (fresh (r, a ∙ ap some (sym b.1)))) (snoc_at s.rows y x q b))
            (λ (a : (r ≡ length s.rows) × (y ≡ x)). ⊎_elim
            (λ (b : get_elem? s.rows q ≡ some x). absurd (fresh (q, b ∙ ap some (sym a.1))))
            (λ (b : (q ≡ length s.rows) × (y ≡ x)). a.0 ∙ sym b.0) (snoc_at s.rows y x q b))
            (snoc_at s.rows y x r a);
        follow = λ r x at. ⊎_elim
            (λ (a : get_elem? s.rows r ≡ some x). old r x (sound.follow r x a))
            (λ (a : (r ≡ length s.rows) × (y ≡ x)). new r x a.0 a.1
            (content_follows starts leads s.plan path valid (InRows s.rows) next.1.front next.1.rest y next.1.split next.1.before))
            (snoc_at s.rows y x r at);
        begun = λ i t at. let found = sound.begun i t at in (found.0, more t found.0 found.1, found.2);
        cells = λ r column e lt at. let found = sound.cells r column e lt at in
            (found.0, found.1, more r found.0 found.2, says_kept s.rows rows more e found.1 found.3, found.4);
      }
    where
      Follows : List C → ℕ → C → Type 0
      Follows rows r x =
          ((i : ℕ) × (i < s.plan.starts) × starts s.plan.net i x)
          ⊎ ((q column mark : ℕ) × (z : C) × (q < r) × (get_elem? rows q ≡ some z) × (column < s.plan.columns)
          × leads s.plan.net z column (Row x mark))

      old : (r : ℕ) (x : C) → Follows s.rows r x → Follows (s.rows ++ y ∷ []) r x
      old r x (inl a) = inl a
      old r x (inr (q, column, mark, z, lt, at, within, is)) = inr (q, column, mark, z, lt, longer s.rows (y ∷ []) q z at, within, is)

      new : (r : ℕ) (x : C) → r ≡ length s.rows → y ≡ x
          → ((i : ℕ) × (i < s.plan.starts) × starts s.plan.net i y)
          ⊎ ((column mark : ℕ) × (z : C) × InRows s.rows z × (column < s.plan.columns) × leads s.plan.net z column (Row y mark))
          → Follows (s.rows ++ y ∷ []) r x
      new r x last same (inl (i, lt, is)) = inl (i, lt, subst (starts s.plan.net i) same is)
      new r x last same (inr (column, mark, z, (q, at), within, is)) =
          let lt = in_range s.rows q z at in
          inr (
            q,
            column,
            mark,
            z,
            (omega arith),
            longer s.rows (y ∷ []) q z at,
            within,
            subst (λ (w : C). leads s.plan.net z column (Row w mark)) same is,
          )

  start_holds : (s : State N C) (i t : ℕ) (y : C) (workers : List Phase) → IsSound starts leads s → length s.starts ≡ s.plan.starts
      → starts s.plan.net i y → (Holds s (Start i y) → ⊥) → (f : Fact C) → Holds s f
      → Holds (moved s (with_filled s (set s.starts i (Some t)) s.cells workers)) f
  start_holds s i t y workers sound size right empty (Start j z) (u, at, row) = dite (ℕ_discrete j i)
      (λ (e : j ≡ i).
      let is = holds_right s sound size (Start j z) (u, at, row) in
      let same : y ≡ z = one_start s.plan.net i y z right (subst (λ (k : ℕ). starts s.plan.net k z) e is.1) in
      absurd (empty (u, ap (get_elem? s.starts) (sym e) ∙ at, row ∙ ap some (sym same))))
      (λ (ne : j ≡ i → ⊥). (u, set_other s.starts i j (Some t) ne ∙ at, row))
  start_holds s i t y workers sound size right empty (Cell x column led) h = h

  start_only : (s : State N C) (i t : ℕ) (y : C) (workers : List Phase) → get_elem? s.rows t ≡ some y → (f : Fact C)
      → Holds (moved s (with_filled s (set s.starts i (Some t)) s.cells workers)) f → Holds s f ⊎ (f ≡ Start i y)
  start_only s i t y workers there (Start j z) (u, at, row) = ⊎_elim
      (λ (h : (j ≡ i) × (Some u ≡ Some t)).
      let same : u ≡ t = cc in
      let content : z ≡ y = one_there s.rows t z y (ap (get_elem? s.rows) (sym same) ∙ row) there in
      inr (λ k. Start (h.0 k) (content k)))
      (λ (h : (j ≡ i → ⊥) × (get_elem? s.starts j ≡ some (Some u))). inl (u, h.1, row))
      (set_at s.starts i j (Some t) (Some u) at)
  start_only s i t y workers there (Cell x column led) h = inl h

  pub start_extends : (s : State N C) (i t : ℕ) (y : C) (workers : List Phase) → IsSound starts leads s → length s.starts ≡ s.plan.starts
      → starts s.plan.net i y → (Holds s (Start i y) → ⊥) → Extends s (with_filled s (set s.starts i (Some t)) s.cells workers)
  start_extends s i t y workers sound size right empty =
      record {
        rows = λ r x at. at;
        holds = start_holds s i t y workers sound size right empty;
        blocked = λ f b. b;
        answers = λ g m. m;
      }

  pub start_sound : (s : State N C) (i t : ℕ) (y : C) (workers : List Phase) → IsSound starts leads s → starts s.plan.net i y
      → get_elem? s.rows t ≡ some y → IsSound starts leads (moved s (with_filled s (set s.starts i (Some t)) s.cells workers))
  start_sound s i t y workers sound right there =
      record {
        differ = sound.differ;
        follow = sound.follow;
        begun = λ j u at. ⊎_elim
            (λ (h : (j ≡ i) × (Some u ≡ Some t)).
            let same : u ≡ t = cc in
            (y, ap (get_elem? s.rows) same ∙ there, subst (λ (k : ℕ). starts s.plan.net k y) (sym h.0) right))
            (λ (h : (j ≡ i → ⊥) × (get_elem? s.starts j ≡ some (Some u))). sound.begun j u h.1)
            (set_at s.starts i j (Some t) (Some u) at);
        cells = sound.cells;
      }

  pub start_filled : (s : State N C) (i t : ℕ) (y : C) (workers : List Phase) → get_elem? s.rows t ≡ some y
      → (P : Fact C → Type 0) → P (Start i y) → ((f : Fact C) → Holds s f → P f) → (f : Fact C)
      → Holds (moved s (with_filled s (set s.starts i (Some t)) s.cells workers)) f → P f
  start_filled s i t y workers there P here all f h =
      ⊎_elim (λ (a : Holds s f). all f a) (λ (e : f ≡ Start i y). subst P (sym e) here) (start_only s i t y workers there f h)

  cell_holds : (s : State N C) (row column : ℕ) (x : C) (led : Led C) (e : Entry) (workers : List Phase) → IsSound starts leads s
      → length s.starts ≡ s.plan.starts → column < s.plan.columns → get_elem? s.rows row ≡ some x → leads s.plan.net x column led
      → (Holds s (Cell x column led) → ⊥) → (f : Fact C) → Holds s f
      → Holds (moved s (with_filled s s.starts (set s.cells (cell_of s row column) (Some e)) workers)) f
  cell_holds s row column x led e workers sound size within there right empty (Start i y) h = h
  cell_holds s row column x led e workers sound size within there right empty (Cell z other to) (lt, r, d, zs, at, says) =
      dite (ℕ_discrete (cell_of s r other) (cell_of s row column))
      (λ (k : cell_of s r other ≡ cell_of s row column).
      let same = same_cell s.plan.columns r row other column lt within k in
      let content : z ≡ x = one_there s.rows row z x (ap (get_elem? s.rows) (sym same.0) ∙ zs) there in
      let is = holds_right s sound size (Cell z other to) (lt, r, d, zs, at, says) in
      let led_is : to ≡ led = one_led s.plan.net x column to led
      (subst (λ (q : C × ℕ). leads s.plan.net q.0 q.1 to) (λ i. (content i, same.1 i)) is.1) right in
      absurd (empty (subst (Holds s) (λ i. Cell (content i) (same.1 i) (led_is i)) (lt, r, d, zs, at, says))))
      (λ (ne : cell_of s r other ≡ cell_of s row column → ⊥).
      (lt, r, d, zs, set_other s.cells (cell_of s row column) (cell_of s r other) (Some e) ne ∙ at, says))

  cell_only : (s : State N C) (row column : ℕ) (x : C) (led : Led C) (e : Entry) (workers : List Phase)
      → column < s.plan.columns → get_elem? s.rows row ≡ some x → Says s.rows e led → (f : Fact C)
      → Holds (moved s (with_filled s s.starts (set s.cells (cell_of s row column) (Some e)) workers)) f
      → Holds s f ⊎ (f ≡ Cell x column led)
  cell_only s row column x led e workers within there is (Start i y) h = inl h
  cell_only s row column x led e workers within there is (Cell z other to) (lt, r, d, zs, at, says) = ⊎_elim
      (λ (h : (cell_of s r other ≡ cell_of s row column) × (Some d ≡ Some e)).
      let same = same_cell s.plan.columns r row other column lt within h.0 in
      let content : z ≡ x = one_there s.rows row z x (ap (get_elem? s.rows) (sym same.0) ∙ zs) there in
      let entries : d ≡ e = cc in
      let led_is : to ≡ led = says_one s.rows e to led (subst (λ (k : Entry). Says s.rows k to) entries says) is in
      inr (λ i. Cell (content i) (same.1 i) (led_is i)))
      (λ (h : (cell_of s r other ≡ cell_of s row column → ⊥) × (get_elem? s.cells (cell_of s r other) ≡ some (Some d))).
      inl (lt, r, d, zs, h.1, says))
      (set_at s.cells (cell_of s row column) (cell_of s r other) (Some e) (Some d) at)

  pub cell_extends : (s : State N C) (row column : ℕ) (x : C) (led : Led C) (e : Entry) (workers : List Phase) → IsSound starts leads s
      → length s.starts ≡ s.plan.starts → column < s.plan.columns → get_elem? s.rows row ≡ some x → leads s.plan.net x column led
      → (Holds s (Cell x column led) → ⊥) → Extends s (with_filled s s.starts (set s.cells (cell_of s row column) (Some e)) workers)
  cell_extends s row column x led e workers sound size within there right empty =
      record {
        rows = λ r x at. at;
        holds = cell_holds s row column x led e workers sound size within there right empty;
        blocked = λ f b. b;
        answers = λ g m. m;
      }

  pub cell_sound : (s : State N C) (row column : ℕ) (x : C) (led : Led C) (e : Entry) (workers : List Phase) → IsSound starts leads s
      → column < s.plan.columns → get_elem? s.rows row ≡ some x → leads s.plan.net x column led → Says s.rows e led
      → IsSound starts leads (moved s (with_filled s s.starts (set s.cells (cell_of s row column) (Some e)) workers))
  cell_sound s row column x led e workers sound within there right says =
      record {
        differ = sound.differ;
        follow = sound.follow;
        begun = sound.begun;
        cells = λ r other d lt at. ⊎_elim
            (λ (h : (cell_of s r other ≡ cell_of s row column) × (Some d ≡ Some e)).
            let same = same_cell s.plan.columns r row other column lt within h.0 in
            let entries : d ≡ e = cc in (
              x,
              led,
              ap (get_elem? s.rows) same.0 ∙ there,
              subst (λ (k : Entry). Says s.rows k led) (sym entries) says,
              subst (λ (k : ℕ). leads s.plan.net x k led) (sym same.1) right,
            ))
            (λ (h : (cell_of s r other ≡ cell_of s row column → ⊥) × (get_elem? s.cells (cell_of s r other) ≡ some (Some d))).
            sound.cells r other d lt h.1)
            (set_at s.cells (cell_of s row column) (cell_of s r other) (Some e) (Some d) at);
      }

  pub cell_filled : (s : State N C) (row column : ℕ) (x : C) (led : Led C) (e : Entry) (workers : List Phase)
      → column < s.plan.columns → get_elem? s.rows row ≡ some x → Says s.rows e led
      → (P : Fact C → Type 0) → P (Cell x column led) → ((f : Fact C) → Holds s f → P f) → (f : Fact C)
      → Holds (moved s (with_filled s s.starts (set s.cells (cell_of s row column) (Some e)) workers)) f → P f
  cell_filled s row column x led e workers within there says P here all f h =
      ⊎_elim (λ (a : Holds s f). all f a) (λ (k : f ≡ Cell x column led). subst P (sym k) here)
      (cell_only s row column x led e workers within there says f h)
