-- The files of a run, and what is reported of them.
use Rattle.std.specs.Prelude.{◌≡◌, ℕ, zero, suc, List, [], ◌∷◌, ◌++◌, Some, false, length, slice_get}
use Rattle.g4_decide.specs.Asked.{Told}
use Rattle.g4_load.specs.declared.interpreter.Interpreter.{Interpreter}
use Rattle.g4_outcome.specs.Reported.{IsFileReport}
use Rattle.g4_outcome.specs.declared.file_report.FileReport.{FileReport}
use Rattle.g4_outcome.specs.declared.input.Input.{Input}
use Rattle.g4_store.specs.Views.{no_looks, pass_view}
use Rattle.g4_words.specs.declared.command.Output.{Output}

-- What is asked of a run: what is written of accepted files, what they are parsed with, and the files' names and contents.
pub record Files : Type 0 where
  pub output : Output
  pub interpreter : Interpreter
  pub names : List (List ℕ)
  pub inputs : List Input

abbrev pub files_of : Output → Interpreter → List (List ℕ) → List Input → Files
files_of output interpreter names inputs = record { output = output; interpreter = interpreter; names = names; inputs = inputs }

-- the first pass of a store, of which copies were made but nothing else, so that there are so many
abbrev pub first_pass : ℕ → Told
first_pass n = (pass_view [] [] [] (0 ∷ []) n no_looks, false)

-- the copy of it that has this number
abbrev pub copy_of : ℕ → Told
copy_of n = (pass_view [] [] [] (n ∷ []) 0 no_looks, false)

-- the first so many copies
abbrev pub first_copies : ℕ → List Told
first_copies zero = []
first_copies (suc n) = first_copies n ++ copy_of (suc n) ∷ []

-- The files, and how many workers parse them beside the caller.
pub record Pooled : Type 0 where
  pub files : Files
  pub jobs : ℕ

abbrev pub pooled : Files → ℕ → Pooled
pooled files jobs = record { files = files; jobs = jobs }

-- what is reported of the file of this number
pub record IsReportAt (files : Files) (k : ℕ) (report : FileReport) : Type 0 where
  pub name : List ℕ
  pub input : Input
  pub named : slice_get files.names k ≡ Some name
  pub given : slice_get files.inputs k ≡ Some input
  pub is : IsFileReport files.output files.interpreter name input report

-- There is a report of each file, and report k is that of file k.
pub record AreReports (files : Files) (reports : List FileReport) : Type 0 where
  pub long : length reports ≡ length files.inputs
  pub each : (k : ℕ) (report : FileReport) → slice_get reports k ≡ Some report → IsReportAt files k report
