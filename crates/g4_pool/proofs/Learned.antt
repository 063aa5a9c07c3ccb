-- What the caller's pass has in the end.
use Rattle.std.proofs.Common.{◌≡◌, ◌⊎◌, inl, inr, ℕ, zero, suc, ◌<◌, ◌≤◌, List, [], ◌∷◌, All, Contains, Some, length, slice_get, refl, sym, ◌∙◌, ap, subst, arith}
use Rattle.std.proofs.lemmas.List.Elements.{All-cons, All-nil}
use Rattle.std.proofs.lemmas.Option.{get_or_from_slice_get, slice_get-get_or, slice_get_within}
use Rattle.g4_classes.specs.Classes.{IsSymbol}
use Rattle.g4_decide.specs.Asked.{Told}
use Rattle.g4_learned.specs.Tables.{Tables}
use Rattle.g4_load.specs.declared.interpreter.Interpreter.{Interpreter}
use Rattle.g4_net.specs.Configurations.{Config}
use Rattle.g4_outcome.specs.Outcomes.{IsOutcome}
use Rattle.g4_outcome.specs.Taught.{IsRunOf}
use Rattle.g4_outcome.specs.declared.file_report.FileReport.{FileReport}
use Rattle.g4_outcome.specs.declared.input.Input.{Input}
use Rattle.g4_outcome.specs.declared.outcome.Outcome.{Outcome}
use Rattle.g4_outcome.proofs.Taught.{has_run, one_run}
use Rattle.g4_run.specs.Running.{RunOver}
use Rattle.g4_store.specs.declared.automaton.Fact.{Fact}
use Rattle.g4_store.specs.declared.automaton.Plan.{Plan}
use Rattle.g4_store.specs.Views.{IsWhole}
use Rattle.g4_tally.specs.Passed as tally
use Rattle.g4_workers.specs.Placing.{HasAll}
use Rattle.g4_pool.specs.Done.{HasDone, IsPassedAt, IsShort}
use Rattle.g4_pool.specs.Files.{AreReports, Files}
use Rattle.g4_pool.specs.Learned.{AreRunsOf, HasLearned}

-- ---- the runs of files

-- the runs over some inputs, each of which has an outcome
record HasRuns (interpreter : Interpreter) (inputs : List Input) : Type 0 where
  pub runs : List RunOver
  pub are : AreRunsOf interpreter inputs runs

module _ (interpreter : Interpreter) where
  in_front : (input : Input) (inputs : List Input) → Contains (input ∷ inputs) input
  in_front input inputs = (0, omega arith, refl)

  in_rest : {X : Type 0} (x y : X) (xs : List X) → Contains xs y → Contains (x ∷ xs) y
  in_rest x y xs (k, less, is) = (suc k, omega (arith, less), is)

  front_or_rest : {X : Type 0} (x y : X) (xs : List X) → Contains (x ∷ xs) y → (x ≡ y) ⊎ Contains xs y
  front_or_rest x y xs (zero, less, is) = inl is
  front_or_rest x y xs (suc k, less, is) = inr (k, omega (arith, less), is)

  none_there : {X : Type 0} (y : X) → Contains [] y → ⊥
  none_there y (k, less, is) = omega (arith, less)

  -- one input more, which has a run or none
  with_run : (input : Input) (inputs : List Input) (over : RunOver) → HasRuns interpreter inputs → IsRunOf interpreter input over
      → HasRuns interpreter (input ∷ inputs)
  with_run input inputs over h of = record {
    runs = over ∷ h.runs;
    are = λ w. (
      λ there. elim (front_or_rest over w h.runs there) [
        | inl same ↦ (input, in_front input inputs, subst (IsRunOf interpreter input) same of)
        | inr rest ↦ (let found = (h.are w).0 rest in (found.0, in_rest input found.0 inputs found.1, found.2))
      ],
      λ found. elim (front_or_rest input found.0 inputs found.1) [
        | inl same ↦ (
          0,
          omega arith,
          one_run interpreter input over w of
              (subst (λ (i : Input). IsRunOf interpreter i w) (sym same) found.2),
        )
        | inr rest ↦ in_rest over w h.runs ((h.are w).1 (found.0, rest, found.2))
      ],
    );
  }

  without_run : (input : Input) (inputs : List Input) → HasRuns interpreter inputs
      → ((over : RunOver) → IsRunOf interpreter input over → ⊥) → HasRuns interpreter (input ∷ inputs)
  without_run input inputs h none = record {
    runs = h.runs;
    are = λ w. (
      λ there. (let found = (h.are w).0 there in (found.0, in_rest input found.0 inputs found.1, found.2)),
      λ found. elim (front_or_rest input found.0 inputs found.1) [
        | inl same ↦ absurd (none w (subst (λ (i : Input). IsRunOf interpreter i w) (sym same) found.2))
        | inr rest ↦ (h.are w).1 (found.0, rest, found.2)
      ],
    );
  }

  one_more : (input : Input) (inputs : List Input) (outcome : Outcome) → IsOutcome interpreter input outcome → HasRuns interpreter inputs
      → HasRuns interpreter (input ∷ inputs)
  one_more input inputs outcome is h = elim (has_run interpreter input outcome is) [
    | inl some ↦ with_run input inputs some.0 h some.1
    | inr none ↦ without_run input inputs h none
  ]

  runs_of : (inputs : List Input)
      → ((k : ℕ) (input : Input) → slice_get inputs k ≡ Some input → (outcome : Outcome) × IsOutcome interpreter input outcome)
      → HasRuns interpreter inputs
  runs_of [] each = record { runs = []; are = λ w. (λ there. absurd (none_there w there), λ found. absurd (none_there found.0 found.1)) }
  runs_of (input ∷ inputs) each =
      let here = each 0 input refl in
      one_more input inputs here.0 here.1 (runs_of inputs (λ k i at. each (suc k) i at))

-- ---- the pass

there_is : {X : Type 0} (xs : List X) (k : ℕ) → k < length xs → (x : X) × (slice_get xs k ≡ Some x)
there_is [] k less = absurd (omega (arith, less))
there_is (x ∷ xs) zero less = (x, refl)
there_is (x ∷ xs) (suc k) less = there_is xs k (omega (arith, less))

-- an item at a place is contained, and what is contained has a place
at_contained : {X : Type 0} (xs : List X) (k : ℕ) (x : X) → slice_get xs k ≡ Some x → Contains xs x
at_contained xs k x at = (k, slice_get_within xs k x at, get_or_from_slice_get xs k x x at)

contained_at : {X : Type 0} (xs : List X) (x : X) → Contains xs x → (k : ℕ) × (slice_get xs k ≡ Some x)
contained_at xs x (k, less, is) = (k, slice_get-get_or xs k x less ∙ ap Some is)

module _ (p : Plan Tables) (files : Files) (jobs : ℕ) (pass : Told) (reports : List FileReport) (are : AreReports files reports)
    (h : HasAll (HasDone p files jobs) jobs (length files.inputs) pass) where
  -- a file of a number has its outcome
  outcome_at : (k : ℕ) (input : Input) → slice_get files.inputs k ≡ Some input
      → (outcome : Outcome) × IsOutcome files.interpreter input outcome
  outcome_at k input at =
      let there = there_is reports k (omega (arith, slice_get_within files.inputs k input at, are.long)) in
      let report = are.each k there.0 there.1 in
      let same : report.input ≡ input = let given = report.given in cc in
      (report.is.outcome, subst (λ (i : Input). IsOutcome files.interpreter i report.is.outcome) same report.is.is)

  found : HasRuns files.interpreter files.inputs
  found = runs_of files.interpreter files.inputs outcome_at

  -- all numbers are joined
  holds_all : (n : ℕ) → n ≤ jobs → Contains h.numbers n
  holds_all n low = elim (h.all n low) [ inl joined ↦ joined | inr none ↦ absurd none ]

  whole : IsWhole pass.0
  whole =
      let first = h.has.holds 0 (holds_all 0 (omega arith)) in
      (first, λ n less. h.has.holds n (holds_all n (omega (arith, less, h.has.count first))))

  -- what is passed by a file is passed by its run, and back
  to_runs : (f : Fact (List Config)) → IsPassedAt p.net files h.done f → tally.IsPassedBy p.net found.runs f
  to_runs f passed = (
    passed.passed.over,
    (found.are passed.passed.over).1 (passed.input, at_contained files.inputs passed.number passed.input passed.given, passed.passed.of),
    passed.passed.passed,
  )

  from_runs : (f : Fact (List Config)) → tally.IsPassedBy p.net found.runs f → IsPassedAt p.net files h.done f
  from_runs f by =
      let has = (found.are by.0).0 by.1 in
      let at = contained_at files.inputs has.0 has.1 in
      record {
        number = at.0;
        among = h.each at.0 (slice_get_within files.inputs at.0 has.0 at.1);
        input = has.0;
        given = at.1;
        passed = record { over = by.0; of = has.2; passed = by.2 };
      }

  symbols : tally.HaveSymbols found.runs
  symbols = all_have found.runs (λ over there.
      let has = (found.are over).0 there in
      let at = contained_at files.inputs has.0 has.1 in
      h.has.symbols at.0 (h.each at.0 (slice_get_within files.inputs at.0 has.0 at.1)) has.0 at.1 over has.2)
    where
      all_have : (runs : List RunOver) → ((over : RunOver) → Contains runs over → All IsSymbol over.word)
          → All (λ over. All IsSymbol over.word) runs
      all_have [] each = All-nil (λ over. All IsSymbol over.word)
      all_have (over ∷ runs) each =
          All-cons (λ o. All IsSymbol o.word) over runs (each over (0, omega arith, refl))
          (all_have runs (λ o there. each o (in_rest files.interpreter over o runs there)))

  short : IsShort p (IsPassedAt p.net files h.done) pass → tally.IsShort p found.runs pass
  short s = record {
    table = s.table;
    known = s.known;
    all = s.all;
    row = s.row;
    passed = (s.passed.0, to_runs s.passed.0 s.passed.1, s.passed.2);
    missing = s.missing;
  }

  pub has_learned : HasLearned p files pass
  has_learned = record {
    whole = whole;
    runs = found.runs;
    are = found.are;
    symbols = symbols;
    passed = record {
      within = λ f seen. to_runs f (h.has.passed.within f seen);
      teaches = λ f taught. to_runs f (h.has.passed.teaches f taught);
      whole = λ not_full f by. h.has.passed.whole not_full f (from_runs f by);
      short = λ full. short (h.has.passed.short full);
    };
  }
