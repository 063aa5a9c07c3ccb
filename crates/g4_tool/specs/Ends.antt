-- How a command line ends over files by their names, and what is reported of that.
use Rattle.std.specs.Prelude.{◌≡◌, ℕ, List, [], ◌∷◌, ◌++◌, length, count_by, Option, Ok, Err, codes, if◌then◌else◌}
use Rattle.std.specs.List.{list_all}
use Rattle.g4_words.specs.Commands.{IsCommand}
use Rattle.g4_words.specs.declared.command.Atn.{Atn}
use Rattle.g4_words.specs.declared.command.Check.{Check}
use Rattle.g4_words.specs.declared.command.Command.{Command}
use Rattle.g4_words.specs.declared.command.Command.TheVariants as commands
use Rattle.g4_words.specs.declared.command.Parse.{Parse}
use Rattle.g4_load.specs.declared.loading.Loaded.{Loaded}
use Rattle.g4_outcome.specs.Texts.{large_line, not_utf8_line}
use Rattle.g4_tool.specs.Texts.{usage_line, absent_line, syntax_line, bad_set_line, twice_line, bad_import_line, bad_tokens_line, no_lexer_line, no_token_type_line, no_rule_line, limit_line, undefined_line, unknown_command_line, lexer_predicate_line, unknown_predicate_line, label_clash_line, no_primary_line, empty_operator_line, empty_loop_line, left_cycle_line, checked_line, closing_line}
use Rattle.g4_load.specs.Listing.{Lists}
use Rattle.g4_load.specs.Loading.{Loads}
use Rattle.g4_load.specs.Building.{Builds}
use Rattle.g4_load.specs.Usable.{with_flags}
use Rattle.g4_fetch.specs.Files.{Files}
use Rattle.g4_tool.specs.Cells.{HasManyCells}
use Rattle.g4_tool.specs.Inputs.{inputs_of}
use Rattle.g4_tool.specs.Learned.{IsTold, learned_lines}
use Rattle.g4_tally.specs.declared.tally.Tally.{Tally}
use Rattle.g4_outcome.specs.Outcomes.{AreOutcomes, is_accepted, lines_of_files}
use Rattle.g4_outcome.specs.declared.input.Input.{Input}
use Rattle.g4_outcome.specs.declared.outcome.Outcome.{Outcome}
use Rattle.g4_words.specs.declared.command.Output.{Output}
use Rattle.g4_outcome.specs.declared.line.Line.{Line}
use Rattle.g4_outcome.specs.declared.line.Line.TheVariants.{ToOut}
use Rattle.g4_load.specs.declared.interpreter.Interpreter.{Interpreter}
use Rattle.g4_load.specs.declared.fault.GrammarFault.{GrammarFault}
use Rattle.g4_load.specs.declared.fault.GrammarFault.TheVariants as faults
use Rattle.g4_checks.specs.declared.fault.CheckFault.TheVariants as checks
use Rattle.g4_checks.specs.declared.references.ReferenceFault.{ReferenceFault}
use Rattle.g4_checks.specs.declared.references.ReferenceFault.TheVariants as references
use Rattle.g4_recursion.specs.declared.checking.RecursionFault.{RecursionFault}
use Rattle.g4_recursion.specs.declared.checking.RecursionFault.TheVariants as recursions
use Rattle.g4_load.specs.declared.stop.Stop.{Stop}
use Rattle.g4_load.specs.declared.stop.Stop.TheVariants as stops
use Rattle.g4_tool.specs.declared.status.Status.{Status}
use Rattle.g4_tool.specs.declared.status.Status.TheVariants as statuses

-- The end of a command line: it stops before any file is parsed, its grammar is checked, a rule is listed, or each of its files
-- has an outcome, and it is told how much was learned, if it is asked for.
pub data End : Type 0 where
  stopped : Stop → End
  checked : Loaded → End
  listed : List ℕ → End
  all_parsed : Output → Interpreter → (names : List (List ℕ)) → List Outcome → Option Tally → End

-- The end of `check`: its grammar is loaded, or not.
pub data EndsCheck (files : Files) (check : Check) : End → Type 0 where
  not_checked : (fetched : List (List ℕ)) (stop : Stop) → Loads files check.library check.grammar fetched (Err stop)
      → EndsCheck files check (stopped stop)
  grammar_checked : (fetched : List (List ℕ)) (grammar : Loaded) → Loads files check.library check.grammar fetched (Ok grammar)
      → EndsCheck files check (checked grammar)

-- The end of `atn`: its rule is listed, or not.
pub data EndsAtn (files : Files) (atn : Atn) : End → Type 0 where
  not_listed : (fetched : List (List ℕ)) (stop : Stop) → Lists files atn.library atn.grammar atn.rule fetched (Err stop)
      → EndsAtn files atn (stopped stop)
  rule_listed : (fetched : List (List ℕ)) (listing : List ℕ) → Lists files atn.library atn.grammar atn.rule fetched (Ok listing)
      → EndsAtn files atn (listed listing)

-- The end of `parse`: its grammar is not built, or has too many cells with the rows that are asked for, or one of its files is absent,
-- or each has an outcome, with the flags that are given, and it is told how much was learned.
pub data EndsParse (files : Files) (parse : Parse) : End → Type 0 where
  not_built : (fetched : List (List ℕ)) (stop : Stop) → Builds files parse.library parse.grammar parse.start fetched (Err stop)
      → EndsParse files parse (stopped stop)
  many_cells : (fetched : List (List ℕ)) (interpreter : Interpreter)
      → Builds files parse.library parse.grammar parse.start fetched (Ok interpreter) → HasManyCells parse.rows interpreter
      → EndsParse files parse (stopped (stops.Fault parse.grammar faults.Cells))
  file_absent : (fetched : List (List ℕ)) (interpreter : Interpreter) (name : List ℕ)
      → Builds files parse.library parse.grammar parse.start fetched (Ok interpreter) → ¬ (HasManyCells parse.rows interpreter)
      → inputs_of files parse.files ≡ Err name
      → EndsParse files parse (stopped (stops.Absent name))
  files_parsed : (fetched : List (List ℕ)) (interpreter : Interpreter) (inputs : List Input) (outcomes : List Outcome)
      (learned : Option Tally)
      → Builds files parse.library parse.grammar parse.start fetched (Ok interpreter) → ¬ (HasManyCells parse.rows interpreter)
      → inputs_of files parse.files ≡ Ok inputs
      → AreOutcomes (with_flags parse.flags interpreter) inputs outcomes
      → IsTold parse.learned parse.rows (with_flags parse.flags interpreter) inputs learned
      → EndsParse files parse (all_parsed parse.output (with_flags parse.flags interpreter) parse.files outcomes learned)

-- the end of a command
abbrev pub Ends : Files → Command → End → Type 0
Ends files (commands.Check check) end = EndsCheck files check end
Ends files (commands.Atn atn) end = EndsAtn files atn end
Ends files (commands.Parse parse) end = EndsParse files parse end

-- the words are no command
abbrev pub IsNoCommand : List (List ℕ) → Type 0
IsNoCommand words = (command : Command) → IsCommand words command → ⊥

-- The end that a list of words has over the files.
pub data HasEnd (files : Files) (words : List (List ℕ)) : End → Type 0 where
  no_command : IsNoCommand words → HasEnd files words (stopped stops.Usage)
  of_command : (command : Command) (end : End) → IsCommand words command → Ends files command end → HasEnd files words end

-- the line of a fault of what a grammar names
abbrev pub reference_line : List ℕ → ReferenceFault → Line
reference_line name (references.UndefinedRule rule) = undefined_line name (codes "rule ") rule
reference_line name (references.UnknownMode mode) = undefined_line name (codes "mode ") mode
reference_line name (references.UnknownCommand command) = unknown_command_line name command
reference_line name (references.UnknownChannel channel) = undefined_line name (codes "channel ") channel
reference_line name (references.LexerPredicate place) = lexer_predicate_line name place
reference_line name (references.UnknownPredicate place) = unknown_predicate_line name place
reference_line name (references.LabelClash label) = label_clash_line name label

-- the line of a fault of how rules call each other
abbrev pub recursion_line : List ℕ → RecursionFault → Line
recursion_line name (recursions.NoPrimary rule) = no_primary_line name rule
recursion_line name (recursions.EmptyOperator rule i) = empty_operator_line name rule i
recursion_line name (recursions.EmptyLoop rule) = empty_loop_line name rule
recursion_line name (recursions.LeftCycle rules) = left_cycle_line name rules

-- the line of a grammar's fault
abbrev pub fault_line : List ℕ → GrammarFault → Line
fault_line name (faults.NotUtf8 at) = not_utf8_line name at
fault_line name (faults.Syntax place characters) = syntax_line name place characters
fault_line name (faults.BadSet place) = bad_set_line name place
fault_line name faults.Nesting = limit_line name (codes "nesting 256")
fault_line name (faults.RuleTwice rule) = twice_line name rule
fault_line name (faults.BadImport imported) = bad_import_line name imported
fault_line name (faults.BadTokensLine line) = bad_tokens_line name line
fault_line name (faults.NotALexer grammar) = no_lexer_line name grammar
fault_line name (faults.LiteralWithoutToken literal) = no_token_type_line name literal
fault_line name faults.Rules = limit_line name (codes "rules 4096")
fault_line name faults.Types = limit_line name (codes "types 4096")
fault_line name (faults.Check (checks.Reference fault)) = reference_line name fault
fault_line name (faults.Check (checks.Recursion fault)) = recursion_line name fault
fault_line name (faults.UnknownStart start) = no_rule_line name start
fault_line name faults.Alternatives = limit_line name (codes "alternatives 1024")
fault_line name faults.States = limit_line name (codes "states 65536")
fault_line name faults.Cells = limit_line name (codes "cells 16777216")

-- the line of a command line that stops before any file is parsed
abbrev pub stop_line : Stop → Line
stop_line stops.Usage = usage_line
stop_line (stops.Absent name) = absent_line name
stop_line (stops.TooLarge name size) = large_line name size
stop_line (stops.Fault name fault) = fault_line name fault

-- its status
abbrev pub stop_status : Stop → Status
stop_status stops.Usage = statuses.Usage
stop_status (stops.Absent name) = statuses.Unread
stop_status (stops.TooLarge name size) = statuses.Unread
stop_status (stops.Fault name fault) = statuses.GrammarRefused

-- the lines of an end
abbrev pub lines_of : End → List Line
lines_of (stopped stop) = stop_line stop ∷ []
lines_of (listed listing) = ToOut listing ∷ []
lines_of (checked grammar) = checked_line (length grammar.rules) (length grammar.shown) ∷ []
lines_of (all_parsed output interpreter names outcomes learned) =
    lines_of_files output interpreter names outcomes ++ closing_line (length outcomes) (count_by is_accepted outcomes)
    ∷ learned_lines learned

-- the status of an end
abbrev pub status_of : End → Status
status_of (stopped stop) = stop_status stop
status_of (checked grammar) = statuses.Done
status_of (listed listing) = statuses.Done
status_of (all_parsed output interpreter names outcomes learned) = if list_all is_accepted outcomes then statuses.Done else statuses.Refused

-- the number with which the program ends
abbrev pub number_of : Status → ℕ
number_of statuses.Done = 0
number_of statuses.Refused = 1
number_of statuses.Usage = 2
number_of statuses.GrammarRefused = 3
number_of statuses.Unread = 4
number_of statuses.Unwritten = 5
number_of statuses.NoMemory = 6
