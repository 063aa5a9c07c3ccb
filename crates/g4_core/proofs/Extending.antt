-- What is kept when rows are added, starts and cells filled, and answers given.
use Rattle.std.proofs.Common.{◌≡◌, ℕ, ◌+◌, ◌<◌, ◌≤◌, nat_lt, if◌then◌else◌, List, length, set, Option, Bool, true, false, refl, sym, ap, ◌∙◌, subst, inl, inr, ⊎_elim, arith}
use Rattle.std.proofs.lemmas.Bool.Decides.{nat_tests}
use mathlib.Core.Option.{some}
use lib.ListN.{get_elem?}
use Rattle.g4_store.specs.declared.automaton.Led.{Led}
use Rattle.g4_store.specs.declared.automaton.Led.TheVariants.{Row, End}
use Rattle.g4_store.specs.declared.automaton.Fact.{Fact}
use Rattle.g4_store.specs.declared.path.Path.{Path}
use Rattle.g4_store.specs.Numbers.{Among}
use Rattle.g4_store.specs.Paths.{InRows, Within}
use Rattle.g4_core.specs.declared.event.Entry.{Entry}
use Rattle.g4_core.specs.declared.event.Entry.TheVariants as entry
use Rattle.g4_core.specs.declared.event.Given.{Given}
use Rattle.g4_core.specs.declared.event.Phase.{Phase}
use Rattle.g4_core.specs.declared.event.Phase.TheVariants.{Free, Reading, Learning, Ended}
use Rattle.g4_core.specs.declared.event.Place.{Place}
use Rattle.g4_core.specs.declared.event.Place.TheVariants as place
use Rattle.g4_core.specs.declared.event.Progress.{Progress}
use Rattle.g4_core.specs.declared.event.Progress.TheVariants.{Finished}
use Rattle.g4_core.specs.States.{State, questions_of, contents_of, IsAt, Says, Holds}
use Rattle.g4_core.specs.Steps.{NothingLeft, StandsFrom, Stands, phase_at}
use Rattle.g4_core.specs.Consistent.{IsBlocked, IsLearned, IsAnswered, AreBehind, IsPlace, IsPhase, IsConsistent}
use Rattle.g4_core.proofs.Lists.{one_there, there_is, set_at}
use Rattle.g4_core.proofs.Routes.{one_path, facts_within}

-- what changes in a state
pub record Parts (C : Type 0) : Type 0 where
  pub rows : List C
  pub starts : List (Option ℕ)
  pub cells : List (Option Entry)
  pub progress : List Progress
  pub workers : List Phase
  pub answers : List Given

module _ {C : Type 0} where
  -- an entry says one thing
  pub says_one : (rows : List C) (e : Entry) (a b : Led C) → Says rows e a → Says rows e b → a ≡ b
  says_one rows (entry.Row t n) (Row y m) (Row z k) p q =
      let same : y ≡ z = one_there rows t y z p.0 q.0 in
      let marks : m ≡ k = sym p.1 ∙ q.1 in
      λ i. Row (same i) (marks i)
  says_one rows (entry.Row t n) (Row y m) (End c) p q = absurd q
  says_one rows (entry.Row t n) (End c) b p q = absurd p
  says_one rows (entry.End k) (Row y m) b p q = absurd p
  says_one rows (entry.End k) (End c) (Row z m) p q = absurd q
  says_one rows (entry.End k) (End c) (End d) p q = ap End (sym p ∙ q)

  -- it says the same where rows are added
  pub says_kept : (rows more : List C) → ((r : ℕ) (x : C) → get_elem? rows r ≡ some x → get_elem? more r ≡ some x)
      → (e : Entry) (led : Led C) → Says rows e led → Says more e led
  says_kept rows more kept (entry.Row t n) (Row y m) h = (kept t y h.0, h.1)
  says_kept rows more kept (entry.Row t n) (End c) h = absurd h
  says_kept rows more kept (entry.End k) (Row y m) h = absurd h
  says_kept rows more kept (entry.End k) (End c) h = h

module _ {N C : Type 0} where
  abbrev pub moved : State N C → Parts C → State N C
  moved s u =
      record {
        plan = s.plan;
        files = s.files;
        rows = u.rows;
        starts = u.starts;
        cells = u.cells;
        progress = u.progress;
        workers = u.workers;
        answers = u.answers;
      }

  pub record Extends (s : State N C) (u : Parts C) : Type 0 where
    pub rows : (r : ℕ) (x : C) → get_elem? s.rows r ≡ some x → get_elem? u.rows r ≡ some x
    pub holds : (f : Fact C) → Holds s f → Holds (moved s u) f
    pub blocked : (f : Fact C) → IsBlocked s f → IsBlocked (moved s u) f
    pub answers : (g : Given) → Among g s.answers → Among g u.answers

  pub learned_kept : (s : State N C) (u : Parts C) → Extends s u → (path : Path C) → IsLearned s path → IsLearned (moved s u) path
  learned_kept s u e path h f m = ⊎_elim (λ (a : Holds s f). inl (e.holds f a)) (λ (b : IsBlocked s f). inr (e.blocked f b)) (h f m)

  pub answered_kept : (s : State N C) (u : Parts C) → Extends s u → (file q : ℕ) → IsAnswered s file q → IsAnswered (moved s u) file q
  answered_kept s u e file q (code, at, m) = (code, at, e.answers _ m)

  pub behind_kept : (s : State N C) (u : Parts C) → Extends s u → (file n : ℕ) → AreBehind s file n → AreBehind (moved s u) file n
  behind_kept s u e file n h q path lt at =
      let k = h q path lt at in (learned_kept s u e path k.0, answered_kept s u e file q k.1)

  -- what is behind, with one question more
  pub behind_more : (s : State N C) (file n : ℕ) (path : Path C) → AreBehind s file n → IsAt s.files file n path → IsLearned s path
      → IsAnswered s file n → AreBehind s file (n + 1)
  behind_more s file n path h here learned answered q other lt at = go (nat_lt q n) refl
    where
      go : (b : Bool) → nat_lt q n ≡ b → IsLearned s other × IsAnswered s file q
      go true e = h q other (grind (arith, nat_tests)) at
      go false e =
          let same : n ≡ q = grind (arith, nat_tests) in
          let here' : IsAt s.files file q path = subst (λ (k : ℕ). IsAt s.files file k path) same here in (
            subst (IsLearned s) (one_path s.files file q path other here' at) learned,
            subst (λ (k : ℕ). IsAnswered s file k) same answered,
          )

  -- nothing left to learn is that a path is learned as far as there was room
  pub learned_all : (s : State N C) (path : Path C) → NothingLeft s path → IsLearned s path
  learned_all s path n f m =
      ⊎_elim
      (λ (a : Holds s f). inl a)
      (λ (b : Within (InRows s.rows) f → ⊥). ⊎_elim
      (λ (full : length s.rows ≡ s.plan.rows). inr (full, b))
      (λ (all : (y : C) → Among y (contents_of path) → InRows s.rows y). absurd (b (facts_within (InRows s.rows) path all f m)))
      n.rows)
      (n.cells f m)

module _ {N C : Type 0} (starts : N → ℕ → C → Type 0) (leads : N → C → ℕ → Led C → Type 0) where
  place_kept : (s : State N C) (u : Parts C) → Extends s u → (path : Path C) (here : Place) → IsPlace starts leads s path here
      → IsPlace starts leads (moved s u) path here
  place_kept s u e path place.Start h = tt
  place_kept s u e path (place.Cell row k) h =
      record {
        content = h.content;
        done = h.done;
        here = e.rows row h.content h.here;
        split = h.split;
        onward = h.onward;
        seen = λ f m. e.holds f (h.seen f m);
      }

  pub phase_kept : (s : State N C) (u : Parts C) → Extends s u → (phase : Phase) → IsPhase starts leads s phase
      → IsPhase starts leads (moved s u) phase
  phase_kept s u e Free h = tt
  phase_kept s u e (Reading file q here) (lt, behind, path, at, is) =
      (lt, behind_kept s u e file q behind, path, at, place_kept s u e path here is)
  phase_kept s u e (Learning file q begun) (lt, behind, answered, path, at) =
      (lt, behind_kept s u e file q behind, answered_kept s u e file q answered, path, at)
  phase_kept s u e (Ended file) (lt, behind) = (lt, behind_kept s u e file _ behind)

  -- the phases of all workers, where one has changed
  pub phases_set : (s : State N C) (u : Parts C) → Extends s u → (w : ℕ) (phase : Phase)
      → ((v : ℕ) (p : Phase) → get_elem? s.workers v ≡ some p → IsPhase starts leads s p)
      → IsPhase starts leads (moved s u) phase
      → (v : ℕ) (p : Phase) → get_elem? (set s.workers w phase) v ≡ some p → IsPhase starts leads (moved s u) p
  phases_set s u e w phase all is v p at =
      ⊎_elim
      (λ (h : (v ≡ w) × (p ≡ phase)). subst (IsPhase starts leads (moved s u)) (sym h.1) is)
      (λ (h : (v ≡ w → ⊥) × (get_elem? s.workers v ≡ some p)). phase_kept s u e p (all v p h.1))
      (set_at s.workers w v phase p at)

  pub finished_kept : (s : State N C) (u : Parts C) → Extends s u
      → ((file : ℕ) → get_elem? s.progress file ≡ some Finished → AreBehind s file (length (questions_of s.files file)))
      → (file : ℕ) → get_elem? s.progress file ≡ some Finished → AreBehind (moved s u) file (length (questions_of s.files file))
  finished_kept s u e h file at = behind_kept s u e file _ (h file at)

  -- where a worker goes for a question, all before being behind
  pub phase_next : (s : State N C) (file q : ℕ) → file < length s.files → AreBehind s file q
      → IsPhase starts leads s (phase_at s file q)
  phase_next s file q lt behind = go (nat_lt q (length (questions_of s.files file))) refl
    where
      go : (b : Bool) → nat_lt q (length (questions_of s.files file)) ≡ b
          → IsPhase starts leads s (if b then Reading file q place.Start else Ended file)
      go true e =
          let less : q < length (questions_of s.files file) = grind (arith, nat_tests) in
          let found = there_is (questions_of s.files file) q less in
          (lt, behind, found.0, found.1, tt)
      go false e =
          let most : length (questions_of s.files file) ≤ q = grind (arith, nat_tests) in
          (lt, λ k path less at. behind k path (omega arith) at)

  -- what is known of a worker by its phase as it stands
  pub stands_phase : (s : State N C) → IsConsistent starts leads s → (w : ℕ) (phase : Phase) → Stands s w phase
      → IsPhase starts leads s phase
  stands_phase s h w phase (recorded, at, stands) = go recorded (h.phases w recorded at) stands
    where
      go : (recorded : Phase) → IsPhase starts leads s recorded → StandsFrom s recorded phase → IsPhase starts leads s phase
      go Free is e = subst (IsPhase starts leads s) (sym e) is
      go (Reading file q here) is e = subst (IsPhase starts leads s) (sym e) is
      go (Learning file q begun) (lt, behind, answered, path, at) (other, at', inl (left, e)) =
          subst (IsPhase starts leads s) (sym e)
          (phase_next s file (q + 1) lt (behind_more s file q other behind at' (learned_all s other left) answered))
      go (Learning file q begun) is (other, at', inr (left, e)) = subst (IsPhase starts leads s) (sym e) is
      go (Ended file) is e = subst (IsPhase starts leads s) (sym e) is
