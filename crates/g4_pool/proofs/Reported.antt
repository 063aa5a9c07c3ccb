-- What is reported of a file that was looked up.
use Rattle.std.proofs.Common.{◌≡◌, ◌<◌, ℕ, List, [], ◌∷◌, ◌++◌, Some, Ok, Err, Result, All, IfOk, length, get_or, refl, slice_get, subst}
use Rattle.std.proofs.lemmas.List.Elements.{All-get_or}
use Rattle.std.proofs.lemmas.Option.{get_or_from_slice_get, slice_get_read, slice_get_within}
use Rattle.g4_outcome.specs.Reported.{IsFileReport}
use Rattle.g4_outcome.specs.declared.file_report.FileReport.{FileReport}
use Rattle.g4_outcome.specs.declared.input.Input.{Input}
use Rattle.g4_decide.specs.Asked.{Told}
use Rattle.g4_learned.specs.Tables.{Tables}
use Rattle.g4_outcome.specs.Taught.{HasTaught}
use Rattle.g4_store.specs.declared.automaton.Plan.{Plan}
use Rattle.g4_pool.specs.Done.{HasDone}
use Rattle.g4_pool.specs.Files.{Files, IsReportAt}
use Rattle.g4_pool.proofs.Done.{one_done}

-- what holds of each item holds of the one that is looked up
pub all_read : {X : Type 0} (P : X → Type 0) (xs : List X) (k : ℕ) (x : X) → All P xs → slice_get xs k ≡ Some x → P x
all_read P xs k x all at =
    subst P (get_or_from_slice_get xs k x x at) (All-get_or P xs k x (slice_get_within xs k x at) all)

pub report_at : {E : Type 0} (files : Files) (k : ℕ) (name lent : List ℕ) (input : Input) (result : Result FileReport E)
    → k < length files.names → name ≡ get_or files.names k name → slice_get files.inputs k ≡ Some input → lent ≡ name
    → IfOk result (IsFileReport files.output files.interpreter lent input) → IfOk result (IsReportAt files k)
report_at files k name lent input (Err e) in_names named given text is = tt
report_at files k name lent input (Ok report) in_names named given text is = record {
  name = name;
  input = input;
  named = slice_get_read files.names (length files.names) k name refl in_names named;
  given = given;
  is = subst (λ (n : List ℕ). IsFileReport files.output files.interpreter n input report) text is;
}

pub done_at : {E : Type 0} (p : Plan Tables) (files : Files) (jobs : ℕ) (numbers done : List ℕ) (k : ℕ) (input : Input)
    (old new : Told) (result : Result FileReport E) → HasDone p files jobs numbers done old → slice_get files.inputs k ≡ Some input
    → IfOk result (λ _. HasTaught p files.interpreter input old new) → IfOk result (λ _. HasDone p files jobs numbers (done ++ k ∷ []) new)
done_at p files jobs numbers done k input old new (Err e) h given taught = tt
done_at p files jobs numbers done k input old new (Ok report) h given taught =
    one_done p files jobs numbers done k input old new h given taught
