-- The report of a command line over files by their names: the lines for out and err, and the status.
use Rattle.std.specs.Prelude.{◌≡◌, ◌↔◌, ◌⊎◌, ◌==◌, ℕ, List, ◌∷◌, ◌++◌, All, Option, Result, Ok, Err, if◌then◌else◌}
use Rattle.g4_words.specs.Commands.{IsCommand}
use Rattle.g4_words.specs.declared.command.Command.TheVariants as commands
use Rattle.g4_words.specs.declared.command.Parse.{Parse}
use Rattle.g4_load.specs.Building.{Builds}
use Rattle.g4_fetch.specs.Files.{Files}
use Rattle.g4_tool.specs.Cells.{HasManyCells}
use Rattle.g4_tool.specs.Inputs.{inputs_of}
use Rattle.g4_tool.specs.Learned.{learned_lines}
use Rattle.g4_tally.specs.declared.tally.Tally.{Tally}
use Rattle.g4_tool.specs.Texts.{closing_line}
use Rattle.g4_tool.specs.Ends.{End, stopped, checked, listed, all_parsed, HasEnd, lines_of, status_of}
use Rattle.g4_outcome.specs.Meaning.{IsMeant}
use Rattle.g4_tool.specs.declared.files.Parsed.{Parsed}
use Rattle.g4_load.specs.declared.stop.Halt.{Halt}
use Rattle.g4_load.specs.declared.stop.Halt.TheVariants as halts
use Rattle.g4_outcome.specs.declared.input.Input.{Input}
use Rattle.g4_load.specs.declared.interpreter.Interpreter.{Interpreter}
use Rattle.g4_tool.specs.declared.report.Report.{Report}
use Rattle.g4_tool.specs.declared.status.Status.{Status}
use Rattle.g4_tool.specs.declared.status.Status.TheVariants.{Done, Refused}

-- the report has the lines and the status of the end
pub record IsReportOf (end : End) (report : Report) : Type 0 where
  pub lines : report.lines ≡ lines_of end
  pub status : report.status ≡ status_of end

-- the report has the lines of so many files, the closing line, and what is told of how much was learned
pub record IsReportOfFiles (parsed : Parsed) (learned : Option Tally) (files : ℕ) (report : Report) : Type 0 where
  pub lines : report.lines ≡ parsed.lines.items ++ closing_line files parsed.accepted ∷ learned_lines learned
  pub status : report.status ≡ (if parsed.accepted == files then Done else Refused)

-- the status where nothing stops the command
abbrev pub IsDoneOrRefused : Status → Type 0
IsDoneOrRefused status = (status ≡ Done) ⊎ (status ≡ Refused)

-- of an end where files are parsed from this start rule, each outcome
abbrev pub IsMeantEnd : List ℕ → End → Type 0
IsMeantEnd start (stopped stop) = Unit {0}
IsMeantEnd start (checked grammar) = Unit {0}
IsMeantEnd start (listed listing) = Unit {0}
IsMeantEnd start (all_parsed output interpreter names os learned) = All (IsMeant interpreter start) os

-- The report is that of the end that the words have. Where they parse files, each file with a tree is one whose tokens the rules derive
-- from the start rule, and are in the tree but for EOFs at their end; of the others that have tokens none is, unless too many rules
-- are open.
pub record IsReport (files : Files) (words : List (List ℕ)) (report : Report) : Type 0 where
  pub end : End
  pub has : HasEnd files words end
  pub is : IsReportOf end report
  pub meant : (parse : Parse) → IsCommand words (commands.Parse parse) → IsMeantEnd parse.start end

-- the call answers with the report of the files, or as the command line stops, unless a fetch fails or memory runs out
abbrev pub ReportsOrHalts : Files → List (List ℕ) → Result Report Halt → Type 0
ReportsOrHalts files words (Ok report) = IsReport files words report
ReportsOrHalts files words (Err (halts.Stop stop)) = HasEnd files words (stopped stop)
ReportsOrHalts files words (Err halts.Failed) = Unit {0}
ReportsOrHalts files words (Err halts.NoMemory) = Unit {0}

-- the words have an end with this status
pub record Means (files : Files) (words : List (List ℕ)) (status : Status) : Type 0 where
  pub end : End
  pub has : HasEnd files words end
  pub is : status_of end ≡ status

-- the answer is each status exactly where the words have an end with it
abbrev pub ComesExactly : Files → List (List ℕ) → Status → Type 0
ComesExactly files words answer = (status : Status) → (answer ≡ status) ↔ Means files words status

-- The words parse files with a grammar that is without fault and has not too many cells, and each of the files is there.
pub record CanBeRun (files : Files) (words : List (List ℕ)) : Type 0 where
  pub parse : Parse
  pub fetched : List (List ℕ)
  pub interpreter : Interpreter
  pub inputs : List Input
  pub command : IsCommand words (commands.Parse parse)
  pub built : Builds files parse.library parse.grammar parse.start fetched (Ok interpreter)
  pub fits : ¬ (HasManyCells parse.rows interpreter)
  pub there : inputs_of files parse.files ≡ Ok inputs

-- where the command can be run, it is Done or Refused
abbrev pub IsComplete : Files → List (List ℕ) → Status → Type 0
IsComplete files words answer = CanBeRun files words → IsDoneOrRefused answer
