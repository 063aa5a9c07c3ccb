-- What is reported of a file.
use Rattle.std.specs.Prelude.{◌≡◌, ℕ, List}
use Rattle.g4_load.specs.declared.interpreter.Interpreter.{Interpreter}
use Rattle.g4_outcome.specs.Meaning.{IsMeantAnywhere}
use Rattle.g4_outcome.specs.Outcomes.{IsOutcome, is_accepted, outcome_lines}
use Rattle.g4_outcome.specs.declared.file_report.FileReport.{FileReport}
use Rattle.g4_outcome.specs.declared.input.Input.{Input}
use Rattle.g4_outcome.specs.declared.outcome.Outcome.{Outcome}
use Rattle.g4_words.specs.declared.command.Output.{Output}

-- The lines of the outcome of an input that has this name, and whether it is accepted. The outcome is that of the interpreter and the
-- input alone, and says what it is to mean.
pub record IsFileReport (output : Output) (interpreter : Interpreter) (name : List ℕ) (input : Input) (report : FileReport) : Type 0 where
  pub outcome : Outcome
  pub is : IsOutcome interpreter input outcome
  pub lines : report.lines.items ≡ outcome_lines output interpreter name outcome
  pub accepted : report.accepted ≡ is_accepted outcome
  pub meant : IsMeantAnywhere interpreter outcome
