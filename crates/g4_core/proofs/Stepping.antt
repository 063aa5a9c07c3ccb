-- Each step keeps a consistent state consistent, and what is filled filled.
use Rattle.std.proofs.Common.{◌≡◌, ℕ, ◌+◌, ◌<◌, List, [], ◌∷◌, ◌++◌, length, set, get_or, Option, None, Some, Bool, true, false, refl, sym, ◌∙◌, subst, inl, ⊎_elim, arith, length-append}
use Rattle.std.proofs.lemmas.List.{length-set}
use mathlib.Core.Option.{some}
use lib.ListN.{get_elem?}
use Rattle.g4_store.specs.declared.automaton.Led.{Led}
use Rattle.g4_store.specs.declared.automaton.Fact.{Fact}
use Rattle.g4_store.specs.declared.automaton.Fact.TheVariants.{Start, Cell}
use Rattle.g4_store.specs.declared.path.Looked.{Looked}
use Rattle.g4_store.specs.declared.path.Path.{Path}
use Rattle.g4_store.specs.Numbers.{Among}
use Rattle.g4_store.specs.Paths.{facts_of}
use Rattle.g4_core.specs.declared.event.Change.{Change}
use Rattle.g4_core.specs.declared.event.Effect.TheVariants.{Nothing, Claims, Answers, Adds, Fills, Finishes}
use Rattle.g4_core.specs.declared.event.Entry.{Entry}
use Rattle.g4_core.specs.declared.event.Entry.TheVariants as entry
use Rattle.g4_core.specs.declared.event.Event.{Event}
use Rattle.g4_core.specs.declared.event.Event.TheVariants.{Claim, Probe, LearnRow, LearnCell, Finish}
use Rattle.g4_core.specs.declared.event.Given.{Given}
use Rattle.g4_core.specs.declared.event.Phase.{Phase}
use Rattle.g4_core.specs.declared.event.Phase.TheVariants.{Free, Reading, Learning, Ended}
use Rattle.g4_core.specs.declared.event.Place.{Place}
use Rattle.g4_core.specs.declared.event.Place.TheVariants as place
use Rattle.g4_core.specs.declared.event.Progress.{Progress}
use Rattle.g4_core.specs.declared.event.Progress.TheVariants.{Waiting, Claimed, Finished}
use Rattle.g4_core.specs.declared.event.Slot.{Slot}
use Rattle.g4_core.specs.declared.event.Slot.TheVariants as slot
use Rattle.g4_core.specs.States.{State, questions_of, contents_of, IsAt, EndsWith, IsAsked, Says, cell_of, Holds}
use Rattle.g4_core.specs.Steps.{given, change, NextRow, NextCell, IsSlot, Stands, phase_at, LeftToLearn, ReadsStart, ReadsCell, Reads, Changes, changed, Steps}
use Rattle.g4_core.specs.Consistent.{IsLearned, AreBehind, IsAnswer, IsOnWay, IsPlace, IsPhase, IsConsistent}
use Rattle.g4_core.proofs.Lists.{in_range, one_there, set_at, among_left, among_right, at_append, snoc_at}
use Rattle.g4_core.proofs.Routes.{one_path, facts_right}
use Rattle.g4_core.proofs.Extending.{Parts, moved, Extends, behind_kept, behind_more, phase_kept, phases_set, phase_next, stands_phase}
use Rattle.g4_core.proofs.Readings.{start_read, IsNext, next_on, row_read, end_read}
use Rattle.g4_core.proofs.Learning.{with_row, row_extends, row_only, row_sound, with_filled, start_extends, start_sound, start_filled, cell_extends, cell_sound, cell_filled}

module _ {N C : Type 0} (starts : N → ℕ → C → Type 0) (leads : N → C → ℕ → Led C → Type 0)
    (one_start : (net : N) (i : ℕ) (x y : C) → starts net i x → starts net i y → x ≡ y)
    (one_led : (net : N) (x : C) (s : ℕ) (a b : Led C) → leads net x s a → leads net x s b → a ≡ b) where
  pub record Kept (s t : State N C) : Type 0 where
    pub plan : t.plan ≡ s.plan
    pub files : t.files ≡ s.files
    pub consistent : IsConsistent starts leads t
    pub holds : (f : Fact C) → Holds s f → Holds t f

  -- the state with another progress of files, phases and answers
  abbrev beside : State N C → List Progress → List Phase → List Given → Parts C
  beside s progress workers answers =
      record { rows = s.rows; starts = s.starts; cells = s.cells; progress = progress; workers = workers; answers = answers }

  beside_extends : (s : State N C) (progress : List Progress) (workers : List Phase) (answers : List Given)
      → ((g : Given) → Among g s.answers → Among g answers) → Extends s (beside s progress workers answers)
  beside_extends s progress workers answers more = record { rows = λ r x at. at; holds = λ f h. h; blocked = λ f b. b; answers = more }

  beside_keeps : (s : State N C) → IsConsistent starts leads s → (progress : List Progress) (w : ℕ) (phase : Phase) (answers : List Given)
      → length progress ≡ length s.progress
      → ((g : Given) → Among g s.answers → Among g answers)
      → ((g : Given) → Among g answers → IsAnswer s.files g)
      → IsPhase starts leads (moved s (beside s progress (set s.workers w phase) answers)) phase
      → ((file : ℕ) → get_elem? progress file ≡ some Finished → AreBehind s file (length (questions_of s.files file)))
      → Kept s (moved s (beside s progress (set s.workers w phase) answers))
  beside_keeps s h progress w phase answers size more right is finished =
      let u = beside s progress (set s.workers w phase) answers in
      let e : Extends s u = beside_extends s progress (set s.workers w phase) answers more in
      record {
        plan = refl;
        files = refl;
        holds = λ f a. a;
        consistent = record {
          asked = h.asked;
          sound = record { differ = h.sound.differ; follow = h.sound.follow; begun = h.sound.begun; cells = h.sound.cells };
          fits = h.fits;
          starts_fit = h.starts_fit;
          cells_fit = h.cells_fit;
          files_fit = size ∙ h.files_fit;
          only = h.only;
          rows = h.rows;
          answers = right;
          phases = phases_set starts leads s u e w phase h.phases is;
          finished = λ file at. behind_kept s u e file _ (finished file at);
        };
      }

  same_answers : (s : State N C) (g : Given) → Among g s.answers → Among g s.answers
  same_answers s g m = m

  claims : (s : State N C) → IsConsistent starts leads s → (w file : ℕ) → get_elem? s.progress file ≡ some Waiting
      → Kept s (changed s (change w (phase_at s file 0) (Claims file)))
  claims s h w file at =
      let progress = set s.progress file Claimed in
      let u = beside s progress (set s.workers w (phase_at s file 0)) s.answers in
      let lt : file < length s.files = (let a = in_range s.progress file Waiting at in let b = h.files_fit in omega arith) in
      beside_keeps s h progress w (phase_at s file 0) s.answers (length-set s.progress file Claimed) (same_answers s) h.answers
      (phase_kept starts leads s u (beside_extends s progress (set s.workers w (phase_at s file 0)) s.answers (same_answers s))
      (phase_at s file 0) (phase_next starts leads s file 0 lt (λ q path less at. absurd (omega arith))))
      (λ other is. ⊎_elim
      (λ (k : (other ≡ file) × (Finished ≡ Claimed)). absurd (let bad = k.1 in cc))
      (λ (k : (other ≡ file → ⊥) × (get_elem? s.progress other ≡ some Finished)). h.finished other k.1)
      (set_at s.progress file other Claimed Finished is))

  finishes : (s : State N C) → IsConsistent starts leads s → (w file : ℕ) → Stands s w (Ended file)
      → Kept s (changed s (change w Free (Finishes file)))
  finishes s h w file stands =
      let is = stands_phase starts leads s h w (Ended file) stands in
      beside_keeps s h (set s.progress file Finished) w Free s.answers (length-set s.progress file Finished) (same_answers s) h.answers tt
      (λ other at. ⊎_elim
      (λ (k : (other ≡ file) × (Finished ≡ Finished)).
      subst (λ (f : ℕ). AreBehind s f (length (questions_of s.files f))) (sym k.0) is.1)
      (λ (k : (other ≡ file → ⊥) × (get_elem? s.progress other ≡ some Finished)). h.finished other k.1)
      (set_at s.progress file other Finished Finished at))

  -- an answer more
  abbrev more_answers : State N C → Given → List Given
  more_answers s g = s.answers ++ g ∷ []

  answers_right : (s : State N C) → IsConsistent starts leads s → (g : Given) → IsAnswer s.files g → (a : Given)
      → Among a (more_answers s g) → IsAnswer s.files a
  answers_right s h g right a m = ⊎_elim
      (λ (k : Among a s.answers). h.answers a k)
      (λ (k : Among a (g ∷ [])). ⊎_elim (λ (e : a ≡ g). subst (IsAnswer s.files) (sym e) right) (λ (b : ⊥). absurd b) k)
      (at_append a s.answers (g ∷ []) m)

  leaves : (s : State N C) → IsConsistent starts leads s → (w file q : ℕ) (path : Path C) → file < length s.files → AreBehind s file q
      → IsAt s.files file q path → (c : Change C) → LeftToLearn w file q path c → Kept s (changed s c)
  leaves s h w file q path lt behind at c (code, k, ends, is) =
      let g = given file q code k in
      let phase = Learning file q false in
      let u = beside s s.progress (set s.workers w phase) (more_answers s g) in
      let more : (a : Given) → Among a s.answers → Among a (more_answers s g) = λ a m. among_left a s.answers (g ∷ []) m in
      subst (λ (d : Change C). Kept s (changed s d)) (sym is)
      (beside_keeps s h s.progress w phase (more_answers s g) refl more (answers_right s h g (path, at, ends)) (
        lt,
        behind_kept s u (beside_extends s s.progress (set s.workers w phase) (more_answers s g) more) file q behind,
        (code, k, among_right g s.answers (g ∷ []) (inl refl)),
        path,
        at,
      )
      h.finished)

  goes_on : (s : State N C) → IsConsistent starts leads s → (w file q t k : ℕ) (path : Path C) → file < length s.files
      → AreBehind s file q → IsAt s.files file q path → IsOnWay starts leads s path t k → (c : Change C)
      → c ≡ change w (Reading file q (place.Cell t k)) Nothing → Kept s (changed s c)
  goes_on s h w file q t k path lt behind at way c is =
      let phase = Reading file q (place.Cell t k) in
      let u = beside s s.progress (set s.workers w phase) s.answers in
      subst (λ (d : Change C). Kept s (changed s d)) (sym is)
      (beside_keeps s h s.progress w phase s.answers refl (same_answers s) h.answers
      (phase_kept starts leads s u (beside_extends s s.progress (set s.workers w phase) s.answers (same_answers s)) phase
      (lt, behind, path, at, way))
      h.finished)

  ends : (s : State N C) → IsConsistent starts leads s → (w file q code k : ℕ) (path : Path C) → file < length s.files
      → AreBehind s file q → IsAt s.files file q path → IsLearned s path → EndsWith path code k → (c : Change C)
      → c ≡ change w (phase_at s file (q + 1)) (Answers (given file q code k)) → Kept s (changed s c)
  ends s h w file q code k path lt behind at learned end c is =
      let g = given file q code k in
      let phase = phase_at s file (q + 1) in
      let u = beside s s.progress (set s.workers w phase) (more_answers s g) in
      let more : (a : Given) → Among a s.answers → Among a (more_answers s g) = λ a m. among_left a s.answers (g ∷ []) m in
      let e : Extends s u = beside_extends s s.progress (set s.workers w phase) (more_answers s g) more in
      subst (λ (d : Change C). Kept s (changed s d)) (sym is)
      (beside_keeps s h s.progress w phase (more_answers s g) refl more (answers_right s h g (path, at, end))
      (phase_next starts leads (moved s u) file (q + 1) lt
      (behind_more (moved s u) file q path (behind_kept s u e file q behind) at learned
      (code, k, among_right g s.answers (g ∷ []) (inl refl))))
      h.finished)

  reads_start : (s : State N C) → IsConsistent starts leads s → (w file q : ℕ) (path : Path C) → file < length s.files
      → AreBehind s file q → IsAt s.files file q path → (found : Option ℕ) → get_or s.starts path.start None ≡ found
      → (c : Change C) → ReadsStart w file q path found c → Kept s (changed s c)
  reads_start s h w file q path lt behind at None e c is = leaves s h w file q path lt behind at c is
  reads_start s h w file q path lt behind at (Some t) e c is =
      goes_on s h w file q t 0 path lt behind at
      (start_read starts leads one_start one_led s h.sound path (h.asked file q path at) t e) c is

  reads_cell : (s : State N C) → IsConsistent starts leads s → (w file q row k : ℕ) (path : Path C) → file < length s.files
      → AreBehind s file q → IsAt s.files file q path → (way : IsOnWay starts leads s path row k)
      → (n : IsNext starts leads one_start one_led s path row k way) → (found : Option Entry)
      → get_or s.cells (cell_of s row n.looked.column) None ≡ found → (c : Change C) → ReadsCell s w file q path k found c
      → Kept s (changed s c)
  reads_cell s h w file q row k path lt behind at way n None e c is = leaves s h w file q path lt behind at c is
  reads_cell s h w file q row k path lt behind at way n (Some (entry.Row t mark)) e c is =
      goes_on s h w file q t (k + 1) path lt behind at (row_read starts leads one_start one_led s h.sound path row k way n t mark e) c is
  reads_cell s h w file q row k path lt behind at way n (Some (entry.End code)) e c is =
      let last = end_read starts leads one_start one_led s h.sound path row k way n code e in
      ends s h w file q code k path lt behind at last.0 last.1 c is

  reads : (s : State N C) → IsConsistent starts leads s → (w file q : ℕ) (path : Path C) → file < length s.files
      → AreBehind s file q → IsAt s.files file q path → (here : Place) → IsPlace starts leads s path here → (c : Change C)
      → Reads s w file q path here c → Kept s (changed s c)
  reads s h w file q path lt behind at place.Start is c r =
      reads_start s h w file q path lt behind at (get_or s.starts path.start None) refl c r
  reads s h w file q path lt behind at (place.Cell row k) way c (l, there, r) =
      let n = next_on starts leads one_start one_led s path row k way in
      let same : l ≡ n.looked = one_there path.looked.items k l n.looked there n.there in
      reads_cell s h w file q row k path lt behind at way n (get_or s.cells (cell_of s row n.looked.column) None) refl c
      (subst (λ (m : Looked C). ReadsCell s w file q path k (get_or s.cells (cell_of s row m.column) None) c) same r)

  probes : (s : State N C) → IsConsistent starts leads s → (w file q : ℕ) (here : Place) (path : Path C)
      → Stands s w (Reading file q here) → IsAt s.files file q path → (c : Change C) → Reads s w file q path here c → Kept s (changed s c)
  probes s h w file q here path stands at c r = go (stands_phase starts leads s h w (Reading file q here) stands)
    where
      go : IsPhase starts leads s (Reading file q here) → Kept s (changed s c)
      go (lt, behind, other, at', is) =
          reads s h w file q path lt behind at here
          (subst (λ (p : Path C). IsPlace starts leads s p here) (one_path s.files file q other path at' at) is) c r

  adds : (s : State N C) → IsConsistent starts leads s → (w file q : ℕ) (begun : Bool) (path : Path C) (y : C)
      → Stands s w (Learning file q begun) → IsAt s.files file q path → NextRow s path y
      → Kept s (changed s (change w (Learning file q true) (Adds y)))
  adds s h w file q begun path y stands at next =
      let phase = Learning file q true in
      let workers = set s.workers w phase in
      let u = with_row s y workers in
      let e : Extends s u = row_extends starts leads one_start one_led s y workers next.0 in
      let valid = (h.asked file q path at).0 in
      let on : Among y (contents_of path) =
      subst (Among y) (sym next.1.split) (among_right y next.1.front (y ∷ next.1.rest) (inl refl)) in
      record {
        plan = refl;
        files = refl;
        holds = e.holds;
        consistent = record {
          asked = h.asked;
          sound = row_sound starts leads one_start one_led s y workers h.sound path valid next;
          fits = (let a = next.0 in let b = length-append s.rows (y ∷ []) in omega arith);
          starts_fit = h.starts_fit;
          cells_fit = h.cells_fit;
          files_fit = h.files_fit;
          only = λ f a. h.only f (row_only starts leads one_start one_led s y workers h.sound f a);
          rows = λ r z is. ⊎_elim
              (λ (a : get_elem? s.rows r ≡ some z). h.rows r z a)
              (λ (a : (r ≡ length s.rows) × (y ≡ z)). (file, q, path, at, subst (λ (x : C). Among x (contents_of path)) a.1 on))
              (snoc_at s.rows y z r is);
          answers = h.answers;
          phases = phases_set starts leads s u e w phase h.phases
              (phase_kept starts leads s u e phase (learning (stands_phase starts leads s h w (Learning file q begun) stands)));
          finished = λ other is. behind_kept s u e other _ (h.finished other is);
        };
      }
    where
      learning : IsPhase starts leads s (Learning file q begun) → IsPhase starts leads s (Learning file q true)
      learning is = is

  fills_start : (s : State N C) → IsConsistent starts leads s → (w file q i t : ℕ) (y : C) (path : Path C)
      → IsPhase starts leads s (Learning file q true) → IsAt s.files file q path → Among (Start i y) (facts_of path)
      → (Holds s (Start i y) → ⊥) → get_elem? s.rows t ≡ some y
      → Kept s (changed s (change w (Learning file q true) (Fills (slot.Start i t))))
  fills_start s h w file q i t y path is at on empty there =
      let phase = Learning file q true in
      let workers = set s.workers w phase in
      let u = with_filled s (set s.starts i (Some t)) s.cells workers in
      let right = facts_right starts leads s.plan path (h.asked file q path at).0 (Start i y) on in
      let e : Extends s u = start_extends starts leads one_start one_led s i t y workers h.sound h.starts_fit right.1 empty in
      record {
        plan = refl;
        files = refl;
        holds = e.holds;
        consistent = record {
          asked = h.asked;
          sound = start_sound starts leads one_start one_led s i t y workers h.sound right.1 there;
          fits = h.fits;
          starts_fit = length-set s.starts i (Some t) ∙ h.starts_fit;
          cells_fit = h.cells_fit;
          files_fit = h.files_fit;
          only = start_filled starts leads one_start one_led s i t y workers there (IsAsked s.files) (file, q, path, at, on) h.only;
          rows = h.rows;
          answers = h.answers;
          phases = phases_set starts leads s u e w phase h.phases (phase_kept starts leads s u e phase is);
          finished = λ other k. behind_kept s u e other _ (h.finished other k);
        };
      }

  fills_cell : (s : State N C) → IsConsistent starts leads s → (w file q row column : ℕ) (x : C) (led : Led C) (d : Entry) (path : Path C)
      → IsPhase starts leads s (Learning file q true) → IsAt s.files file q path → Among (Cell x column led) (facts_of path)
      → (Holds s (Cell x column led) → ⊥) → get_elem? s.rows row ≡ some x → Says s.rows d led
      → Kept s (changed s (change w (Learning file q true) (Fills (slot.Cell (cell_of s row column) d))))
  fills_cell s h w file q row column x led d path is at on empty there says =
      let phase = Learning file q true in
      let workers = set s.workers w phase in
      let u = with_filled s s.starts (set s.cells (cell_of s row column) (Some d)) workers in
      let right = facts_right starts leads s.plan path (h.asked file q path at).0 (Cell x column led) on in
      let e : Extends s u =
      cell_extends starts leads one_start one_led s row column x led d workers h.sound h.starts_fit right.0 there right.1 empty in
      record {
        plan = refl;
        files = refl;
        holds = e.holds;
        consistent = record {
          asked = h.asked;
          sound = cell_sound starts leads one_start one_led s row column x led d workers h.sound right.0 there right.1 says;
          fits = h.fits;
          starts_fit = h.starts_fit;
          cells_fit = length-set s.cells (cell_of s row column) (Some d) ∙ h.cells_fit;
          files_fit = h.files_fit;
          only = cell_filled starts leads one_start one_led s row column x led d workers right.0 there says (IsAsked s.files)
              (file, q, path, at, on) h.only;
          rows = h.rows;
          answers = h.answers;
          phases = phases_set starts leads s u e w phase h.phases (phase_kept starts leads s u e phase is);
          finished = λ other k. behind_kept s u e other _ (h.finished other k);
        };
      }

  fills : (s : State N C) → IsConsistent starts leads s → (w file q : ℕ) (begun : Bool) (path : Path C) (f : Fact C) (filled : Slot)
      → Stands s w (Learning file q begun) → IsAt s.files file q path → NextCell s path f → IsSlot s f filled
      → Kept s (changed s (change w (Learning file q true) (Fills filled)))
  fills s h w file q begun path f filled stands at next is = go f filled on next.here.0 is
    where
      phase : IsPhase starts leads s (Learning file q true)
      phase = stands_phase starts leads s h w (Learning file q begun) stands

      on : Among f (facts_of path)
      on = subst (Among f) (sym next.split) (among_right f next.front (f ∷ next.rest) (inl refl))

      go : (f : Fact C) (filled : Slot) → Among f (facts_of path) → (Holds s f → ⊥) → IsSlot s f filled
          → Kept s (changed s (change w (Learning file q true) (Fills filled)))
      go (Start i y) (slot.Start j t) on empty (same, there) =
          subst (λ (k : ℕ). Kept s (changed s (change w (Learning file q true) (Fills (slot.Start k t))))) (sym same)
          (fills_start s h w file q i t y path phase at on empty there)
      go (Start i y) (slot.Cell k d) on empty is = absurd is
      go (Cell x column led) (slot.Start j t) on empty is = absurd is
      go (Cell x column led) (slot.Cell k d) on empty (row, there, same, says) =
          subst (λ (n : ℕ). Kept s (changed s (change w (Learning file q true) (Fills (slot.Cell n d))))) (sym same)
          (fills_cell s h w file q row column x led d path phase at on empty there says)

  pub changes_keep : (s : State N C) → IsConsistent starts leads s → (event : Event) (c : Change C) → Changes s event c
      → Kept s (changed s c)
  changes_keep s h (Claim w file) c (stands, at, is) = subst (λ (d : Change C). Kept s (changed s d)) (sym is) (claims s h w file at)
  changes_keep s h (Probe w) c (file, q, here, path, stands, at, r) = probes s h w file q here path stands at c r
  changes_keep s h (LearnRow w) c (file, q, begun, path, y, stands, wait, at, next, is) =
      subst (λ (d : Change C). Kept s (changed s d)) (sym is) (adds s h w file q begun path y stands at next)
  changes_keep s h (LearnCell w) c (file, q, begun, path, f, filled, stands, wait, at, next, slot_is, is) =
      subst (λ (d : Change C). Kept s (changed s d)) (sym is) (fills s h w file q begun path f filled stands at next slot_is)
  changes_keep s h (Finish w) c (file, stands, is) = subst (λ (d : Change C). Kept s (changed s d)) (sym is) (finishes s h w file stands)

  pub step_keeps : (s : State N C) → IsConsistent starts leads s → (event : Event) (t : State N C) → Steps s event t → Kept s t
  step_keeps s h event t (c, changes, is) = subst (λ (u : State N C). Kept s u) (sym is) (changes_keep s h event c changes)
