-- What holds after every schedule.
use Rattle.std.proofs.Common.{◌≡◌, ℕ, zero, suc, ◌+◌, ◌*◌, ◌<◌, ◌≤◌, List, [], ◌∷◌, length, replicate, None, Some, refl, sym, ap, ◌∙◌, subst, inl, inr, ⊎_elim, arith}
use Rattle.std.proofs.lemmas.List.{length-replicate}
use mathlib.Core.Option.{some, some-ne-none}
use lib.ListN.{get_elem?}
use Rattle.g4_store.specs.declared.automaton.Led.{Led}
use Rattle.g4_store.specs.declared.automaton.Led.TheVariants.{Row, End}
use Rattle.g4_store.specs.declared.automaton.Fact.{Fact}
use Rattle.g4_store.specs.declared.automaton.Fact.TheVariants.{Start, Cell}
use Rattle.g4_store.specs.declared.automaton.Plan.{Plan}
use Rattle.g4_store.specs.declared.path.Looked.{Looked}
use Rattle.g4_store.specs.declared.path.Path.{Path}
use Rattle.g4_store.specs.Numbers.{Among}
use Rattle.g4_store.specs.Paths.{InRows, Within, Onward, Next, LeadsOn, facts_of, cells_of, next_facts}
use Rattle.g4_core.specs.declared.event.Entry.{Entry}
use Rattle.g4_core.specs.declared.event.Entry.TheVariants as entry
use Rattle.g4_core.specs.declared.event.Event.{Event}
use Rattle.g4_core.specs.declared.event.Given.{Given}
use Rattle.g4_core.specs.declared.event.Phase.TheVariants.{Free}
use Rattle.g4_core.specs.declared.event.Progress.TheVariants.{Waiting, Finished}
use Rattle.g4_core.specs.States.{State, questions_of, with_target, targets_of, contents_of, IsAt, IsAsked, IsOnPath, Says, Holds, AreQuestions, IsQuestion, IsSound}
use Rattle.g4_core.specs.Steps.{Goes, Runs, opened}
use Rattle.g4_core.specs.Consistent.{IsBlocked, IsAnswer, IsPhase, IsConsistent}
use Rattle.g4_core.specs.Laws.{IsReached, AllFinished, HaveRoom, AreDone, IsUnion}
use Rattle.g4_core.proofs.Lists.{in_range, all_same, place_of, no_more}
use Rattle.g4_core.proofs.Routes.{contents_within}
use Rattle.g4_core.proofs.Stepping.{Kept, step_keeps}

module _ {C : Type 0} where
  -- the file of a question is there
  pub at_file : (files : List (List (Path C))) (file q : ℕ) (path : Path C) → IsAt files file q path → file < length files
  at_file [] file q path at = absurd (some-ne-none path (sym at))
  at_file (qs ∷ rest) zero q path at = omega arith
  at_file (qs ∷ rest) (suc file) q path at = let h = at_file rest file q path at in omega arith

module _ {C : Type 0} where
  pub onward_says : (rows : List C) (e : Entry) (led : Led C) → Says rows e led → Onward led (InRows rows)
  onward_says rows (entry.Row t n) (Row y mark) h = (t, h.0)
  onward_says rows (entry.Row t n) (End code) h = absurd h
  onward_says rows (entry.End k) (Row y mark) h = absurd h
  onward_says rows (entry.End k) (End code) h = tt

module _ {N C : Type 0} where
  -- the rows of what is filled are there
  holds_within : (s : State N C) (f : Fact C) → Holds s f → Within (InRows s.rows) f
  holds_within s (Start i y) (t, at, row) = (t, row)
  holds_within s (Cell x column led) (lt, row, e, there, at, says) = ((row, there), onward_says s.rows e led says)

module _ {N C : Type 0} (starts : N → ℕ → C → Type 0) (leads : N → C → ℕ → Led C → Type 0) where
  -- what all starts and cells of a path are within, its contents are within
  targets_within : (P : C → Type 0) (p : Plan N) (x : C) (ls : List (Looked C)) → LeadsOn starts leads p x ls
      → ((f : Fact C) → Among f (cells_of x ls) → Within P f) → (y : C) → Among y (targets_of ls) → P y
  targets_within P p x [] h all y m = absurd m
  targets_within P p x (l ∷ ls) h all y m =
      go (λ z n rest. targets_within P p z ls n rest y) l.led h.2 (all (Cell x l.column l.led) (inl refl)).1 (λ f n. all f (inr n)) m
    where
      go : ((z : C) → LeadsOn starts leads p z ls → ((f : Fact C) → Among f (cells_of z ls) → Within P f) → Among y (targets_of ls) → P y)
          → (led : Led C) → Next starts leads led (λ z. LeadsOn starts leads p z ls) (ls ≡ []) → Onward led P
          → ((f : Fact C) → Among f (next_facts led (λ z. cells_of z ls)) → Within P f)
          → Among y (with_target led (targets_of ls)) → P y
      go further (Row z mark) n here rest (inl e) = subst P (sym e) here
      go further (Row z mark) n here rest (inr k) = further z n rest k
      go further (End code) n here rest k = absurd (subst (λ (ms : List (Looked C)). Among y (targets_of ms)) n k)

  contents_all : (P : C → Type 0) (p : Plan N) (path : Path C) → IsQuestion starts leads p path
      → ((f : Fact C) → Among f (facts_of path) → Within P f) → (y : C) → Among y (contents_of path) → P y
  contents_all P p path q all y (inl e) = subst P (sym e) (all (Start path.start path.content) (inl refl))
  contents_all P p path q all y (inr m) = targets_within P p path.content path.looked.items q.0.2 (λ f n. all f (inr n)) y m

  nothing_yet : {A : Type 0} (n i : ℕ) (a : A) → get_elem? (replicate n None) i ≡ some (Some a) → ⊥
  nothing_yet n i a e = let bad = all_same n i None (Some a) e in cc

  -- at the start all is consistent
  pub opens : (plan : Plan N) (files : List (List (Path C))) (workers : ℕ) → AreQuestions starts leads plan files
      → IsConsistent starts leads (opened plan files workers)
  opens plan files workers asked =
      record {
        asked = asked;
        sound = record {
          differ = λ r q x a b. absurd (some-ne-none x (sym a));
          follow = λ r x a. absurd (some-ne-none x (sym a));
          begun = λ i t a. absurd (nothing_yet plan.starts i t a);
          cells = λ r column e lt a. absurd (nothing_yet (plan.rows * plan.columns) (r * plan.columns + column) e a);
        };
        fits = omega arith;
        starts_fit = length-replicate plan.starts None;
        cells_fit = length-replicate (plan.rows * plan.columns) None;
        files_fit = length-replicate (length files) Waiting;
        only = only;
        rows = λ r y a. absurd (some-ne-none y (sym a));
        answers = λ g m. absurd m;
        phases = λ w phase at. subst (IsPhase starts leads (opened plan files workers)) (sym (all_same workers w Free phase at)) tt;
        finished = λ file at. absurd (let bad = all_same (length files) file Waiting Finished at in cc);
      }
    where
      only : (f : Fact C) → Holds (opened plan files workers) f → IsAsked files f
      only (Start i y) (t, at, row) = absurd (some-ne-none y (sym row))
      only (Cell x column led) (lt, row, e, there, at, says) = absurd (some-ne-none x (sym there))

  -- once all files are finished, all questions are done
  all_done : (s : State N C) → IsConsistent starts leads s → AllFinished s → AreDone s.files s
  all_done s h finished file q path at =
      h.finished file (finished file (at_file s.files file q path at)) q path (in_range (questions_of s.files file) q path at) at

  -- a row that is missing, beside as many as there may be, leaves no room for all
  no_missing : (s : State N C) → IsConsistent starts leads s → (xs : List C) → length xs ≤ s.plan.rows
      → ((y : C) → IsOnPath s.files y → Among y xs) → length s.rows ≡ s.plan.rows → (y : C) → IsOnPath s.files y
      → (InRows s.rows y → ⊥) → ⊥
  no_missing s h xs few all full y on missing =
      let more : length (y ∷ s.rows) ≤ length xs = no_more (y ∷ s.rows) xs differ within in omega arith
    where
      differ : (r q : ℕ) (z : C) → get_elem? (y ∷ s.rows) r ≡ some z → get_elem? (y ∷ s.rows) q ≡ some z → r ≡ q
      differ zero zero z a b = refl
      differ zero (suc q) z a b = absurd (missing (q, b ∙ sym a))
      differ (suc r) zero z a b = absurd (missing (r, a ∙ sym b))
      differ (suc r) (suc q) z a b = ap suc (h.sound.differ r q z a b)

      within : (z : C) → Among z (y ∷ s.rows) → Among z xs
      within z (inl e) = subst (λ (x : C). Among x xs) (sym e) (all y on)
      within z (inr m) = let p = place_of z s.rows m in all z (h.rows p.0 z p.1)

  -- where there is room for all, nothing is blocked
  never_blocked : (s : State N C) → IsConsistent starts leads s → HaveRoom s.plan s.files → (file q : ℕ) (path : Path C)
      → IsAt s.files file q path → (f : Fact C) → Among f (facts_of path) → IsBlocked s f → ⊥
  never_blocked s h (xs, few, all) file q path at f m (full, none) = go f (contents_within path f m) none
    where
      there : (y : C) → Among y (contents_of path) → (InRows s.rows y → ⊥) → ⊥
      there y n missing = no_missing s h xs few all full y (file, q, path, at, n) missing

      go : (f : Fact C) → Within (λ y. Among y (contents_of path)) f → (Within (InRows s.rows) f → ⊥) → ⊥
      go (Start i y) on none = there y on none
      go (Cell x column (Row y mark)) on none = there x on.0 (λ a. there y on.1 (λ b. none (a, b)))
      go (Cell x column (End code)) on none = there x on.0 (λ a. none (a, tt))

  is_union : (s : State N C) → IsConsistent starts leads s → AllFinished s → HaveRoom s.plan s.files → IsUnion s.files s
  is_union s h finished room =
      record {
        facts = λ f. (h.only f, holds f);
        rows = λ y. ((λ a. h.rows a.0 y a.1), row y);
      }
    where
      holds : (f : Fact C) → IsAsked s.files f → Holds s f
      holds f (file, q, path, at, m) = ⊎_elim
          (λ (a : Holds s f). a)
          (λ (b : IsBlocked s f). absurd (never_blocked s h room file q path at f m b))
          ((all_done s h finished file q path at).0 f m)

      row : (y : C) → IsOnPath s.files y → InRows s.rows y
      row y (file, q, path, at, m) =
          contents_all (InRows s.rows) s.plan path (h.asked file q path at)
          (λ f n. holds_within s f (holds f (file, q, path, at, n))) y m

module _ {N C : Type 0} (starts : N → ℕ → C → Type 0) (leads : N → C → ℕ → Led C → Type 0)
    (one_start : (net : N) (i : ℕ) (x y : C) → starts net i x → starts net i y → x ≡ y)
    (one_led : (net : N) (x : C) (s : ℕ) (a b : Led C) → leads net x s a → leads net x s b → a ≡ b) where
  abbrev Keeps : State N C → State N C → Type 0
  Keeps s t = Kept starts leads one_start one_led s t

  goes_keep : (s : State N C) → IsConsistent starts leads s → (event : Event) (t : State N C) → Goes s event t → Keeps s t
  goes_keep s h event t (inl step) = step_keeps starts leads one_start one_led s h event t step
  goes_keep s h event t (inr stays) =
      subst (Keeps s) (sym stays.1) (record { plan = refl; files = refl; consistent = h; holds = λ f a. a })

  pub runs_keep : (s : State N C) → IsConsistent starts leads s → (events : List Event) (t : State N C) → Runs s events t → Keeps s t
  runs_keep s h [] t e = subst (Keeps s) (sym e) (record { plan = refl; files = refl; consistent = h; holds = λ f a. a })
  runs_keep s h (event ∷ events) t (u, goes, runs) =
      let a = goes_keep s h event u goes in
      let b = runs_keep u a.consistent events t runs in
      record {
        plan = b.plan ∙ a.plan;
        files = b.files ∙ a.files;
        consistent = b.consistent;
        holds = λ f m. b.holds f (a.holds f m);
      }

  module _ (plan : Plan N) (files : List (List (Path C))) (s : State N C) (reached : IsReached starts leads plan files s) where
    keeps : Keeps (opened plan files reached.workers) s
    keeps = runs_keep (opened plan files reached.workers) (opens starts leads plan files reached.workers reached.asked)
        reached.events s reached.runs

    pub reached_sound : IsSound starts leads s
    reached_sound = keeps.consistent.sound

    pub reached_room : length s.rows ≤ plan.rows
    reached_room = subst (λ (p : Plan N). length s.rows ≤ p.rows) keeps.plan keeps.consistent.fits

    pub reached_only : (f : Fact C) → Holds s f → IsAsked files f
    reached_only f a = subst (λ (fs : List (List (Path C))). IsAsked fs f) keeps.files (keeps.consistent.only f a)

    pub reached_answers : (g : Given) → Among g s.answers → IsAnswer files g
    reached_answers g m = subst (λ (fs : List (List (Path C))). IsAnswer fs g) keeps.files (keeps.consistent.answers g m)

    pub reached_kept : (events : List Event) (t : State N C) → Runs s events t → (f : Fact C) → Holds s f → Holds t f
    reached_kept events t runs = (runs_keep s keeps.consistent events t runs).holds

    pub reached_done : AllFinished s → AreDone files s
    reached_done finished =
        subst (λ (fs : List (List (Path C))). AreDone fs s) keeps.files (all_done starts leads s keeps.consistent finished)

    pub reached_union : AllFinished s → HaveRoom plan files → IsUnion files s
    reached_union finished room =
        subst (λ (fs : List (List (Path C))). IsUnion fs s) keeps.files
        (is_union starts leads s keeps.consistent finished
        (subst (λ (q : Plan N × List (List (Path C))). HaveRoom q.0 q.1) (λ i. (sym keeps.plan i, sym keeps.files i)) room))
