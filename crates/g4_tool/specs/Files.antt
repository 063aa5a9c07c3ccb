-- The files of a run, parsed.
use Rattle.std.specs.Prelude.{All, ◌≡◌, ◌+◌, ◌++◌, ◌∷◌, [], ℕ, List, count_by}
use Rattle.g4_load.specs.declared.interpreter.Interpreter.{Interpreter}
use Rattle.g4_outcome.specs.Meaning.{IsMeantAnywhere}
use Rattle.g4_outcome.specs.Outcomes.{AreOutcomes, IsOutcome, is_accepted, lines_of_files, outcome_lines}
use Rattle.g4_outcome.specs.declared.input.Input.{Input}
use Rattle.g4_outcome.specs.declared.outcome.Outcome.{Outcome}
use Rattle.g4_tool.specs.declared.files.Parsed.{Parsed}
use Rattle.g4_words.specs.declared.command.Output.{Output}

-- the lines of files and how many are accepted, from an outcome for each, which says what it is to mean
pub record AreParsed (output : Output) (interpreter : Interpreter) (names : List (List ℕ)) (inputs : List Input) (parsed : Parsed) :
    Type 0 where
  pub outcomes : List Outcome
  pub are : AreOutcomes interpreter inputs outcomes
  pub lines : parsed.lines.items ≡ lines_of_files output interpreter names outcomes
  pub accepted : parsed.accepted ≡ count_by is_accepted outcomes
  pub meant : All (IsMeantAnywhere interpreter) outcomes

-- the lines of one more file, which is counted where it is accepted
pub record IsOneMore (output : Output) (interpreter : Interpreter) (name : List ℕ) (input : Input) (before now : Parsed) : Type 0 where
  pub outcome : Outcome
  pub is : IsOutcome interpreter input outcome
  pub lines : now.lines.items ≡ before.lines.items ++ outcome_lines output interpreter name outcome
  pub accepted : now.accepted ≡ before.accepted + count_by is_accepted (outcome ∷ [])
  pub meant : IsMeantAnywhere interpreter outcome
