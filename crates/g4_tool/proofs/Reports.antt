-- The reports and ends that the stages make.
use Rattle.std.proofs.Common.{◌≡◌, ◌⊎◌, inl, inr, ◌++◌, ◌∷◌, [], ℕ, List, length, Bool, true, false, ◌==◌, if◌then◌else◌, Option, Ok, Err, ap, sym, ◌∙◌, refl, subst}
use Rattle.std.specs.List.{list_all}
use Rattle.g4_load.specs.declared.loading.Loaded.{Loaded}
use Rattle.g4_tool.specs.declared.files.Parsed.{Parsed}
use Rattle.g4_outcome.specs.declared.input.Input.{Input}
use Rattle.g4_load.specs.declared.interpreter.Interpreter.{Interpreter}
use Rattle.g4_tool.specs.declared.report.Report.{Report}
use Rattle.g4_tool.specs.declared.status.Status.{Status}
use Rattle.g4_tool.specs.declared.status.Status.TheVariants.{Done, Refused}
use Rattle.g4_load.specs.declared.stop.Stop.{Stop}
use Rattle.g4_load.specs.declared.stop.Stop.TheVariants as stops
use Rattle.g4_load.specs.declared.fault.GrammarFault.TheVariants as faults
use Rattle.g4_load.specs.declared.stop.Halt.{Halt}
use Rattle.g4_load.specs.declared.stop.Halt.TheVariants as halts
use Rattle.g4_outcome.specs.declared.line.Line.{Line}
use Rattle.g4_tool.specs.Running.{HasReportedFront}
use Rattle.g4_tool.specs.Writing.{Wrote, WroteFront}
use Rattle.g4_tool.specs.Texts.{closing_line}
use Rattle.g4_words.specs.Commands.{IsCommand}
use Rattle.g4_words.specs.declared.command.Atn.{Atn}
use Rattle.g4_words.specs.declared.command.Check.{Check}
use Rattle.g4_words.specs.declared.command.Command.{Command}
use Rattle.g4_words.specs.declared.command.Command.TheVariants as commands
use Rattle.g4_words.specs.declared.command.Parse.{Parse}
use Rattle.g4_fetch.specs.Files.{Files}
use Rattle.g4_tool.specs.Inputs.{inputs_of, GivesInputs}
use Rattle.g4_tool.specs.Learned.{IsTold, learned_lines}
use Rattle.g4_tally.specs.declared.tally.Tally.{Tally}
use Rattle.g4_load.specs.Listing.{Lists}
use Rattle.g4_load.specs.Loading.{Loads}
use Rattle.g4_load.specs.Building.{Builds}
use Rattle.g4_load.specs.Usable.{with_flags}
use Rattle.g4_load.specs.Stages.{AfterFetches, IsHaltOf}
use Rattle.g4_outcome.specs.Outcomes.{is_accepted, lines_of_files}
use Rattle.g4_tool.specs.Cells.{HasManyCells, Refuses}
use Rattle.g4_tool.specs.Files.{AreParsed}
use Rattle.g4_tool.specs.Ends.{End, stopped, checked, listed, all_parsed, not_checked, grammar_checked, not_listed, rule_listed, EndsParse, not_built, many_cells, file_absent, files_parsed, Ends, HasEnd, no_command, of_command, status_of}
use Rattle.g4_tool.specs.Report.{IsReportOf, IsReportOfFiles, IsReport, ReportsOrHalts, ComesExactly, CanBeRun, IsComplete}
use Rattle.g4_load.specs.Usable.{IsNetworkFrom}
use Rattle.g4_load.proofs.Networks.{network_from}
use Rattle.g4_tool.proofs.Meant.{meant_from}
use Rattle.g4_tool.proofs.OneByOne.{as_many, all_counted}
use Rattle.g4_tool.proofs.OneEnd.{one_end, same_built, same_inputs, same_many}
use Rattle.g4_words.proofs.OneCommand.{one_command}

-- the lines that are lent are written
pub wrote_lent : {ob on eb en : Option (List ℕ)} (slice lines : List Line) → slice ≡ lines → Wrote slice ob on eb en
    → Wrote lines ob on eb en
wrote_lent {ob} {on} {eb} {en} slice lines same h = subst (λ (ls : List Line). Wrote ls ob on eb en) same h

-- a front part of the lines that are lent is written
pub reported_front : {ob on eb en : Option (List ℕ)} (files : Files) (words : List (List ℕ)) (slice : List Line) (report : Report)
    → slice ≡ report.lines → IsReport files words report → WroteFront slice ob on eb en →
    HasReportedFront files words ob on eb en
reported_front {ob} {on} {eb} {en} files words slice report same is h =
    inr (record { report = report; is = is; lines = subst (λ (ls : List Line). WroteFront ls ob on eb en) same h })

-- a command line that stops before any file is parsed
pub reports_stop : (files : Files) (words : List (List ℕ)) (stop : Stop) (report : Report) → HasEnd files words (stopped stop)
    → IsReportOf (stopped stop) report → IsReport files words report
reports_stop files words stop report has is = record { end = stopped stop; has = has; is = is; meant = λ parse is_parse. tt }

module _ (files : Files) (words : List (List ℕ)) (check : Check)
    (command : IsCommand words (commands.Check check)) where
  -- a grammar that is not checked
  pub stops_unchecked : (halt : Halt) → IsHaltOf (AfterFetches (Loads files check.library check.grammar)) halt
      → ReportsOrHalts files words (Err halt)
  stops_unchecked (halts.Stop stop) h = of_command (commands.Check check) (stopped stop) command (not_checked h.0 stop h.1)
  stops_unchecked halts.Failed h = tt
  stops_unchecked halts.NoMemory h = tt

  -- a grammar that is checked
  pub reports_checked : (grammar : Loaded) (report : Report) → AfterFetches (Loads files check.library check.grammar) (Ok grammar)
      → IsReportOf (checked grammar) report → IsReport files words report
  reports_checked grammar report loads is = record {
    end = checked grammar;
    has = of_command (commands.Check check) (checked grammar) command
        (grammar_checked loads.0 grammar loads.1);
    is = is;
    meant = λ parse is_parse. tt;
  }

module _ (files : Files) (words : List (List ℕ)) (atn : Atn) (command : IsCommand words (commands.Atn atn)) where
  -- a rule that is not listed
  pub stops_unlisted : (halt : Halt) → IsHaltOf (AfterFetches (Lists files atn.library atn.grammar atn.rule)) halt
      → ReportsOrHalts files words (Err halt)
  stops_unlisted (halts.Stop stop) h = of_command (commands.Atn atn) (stopped stop) command (not_listed h.0 stop h.1)
  stops_unlisted halts.Failed h = tt
  stops_unlisted halts.NoMemory h = tt

  -- a rule that is listed
  pub reports_listed : (listing : List ℕ) (report : Report) → AfterFetches (Lists files atn.library atn.grammar atn.rule) (Ok listing)
      → IsReportOf (listed listing) report → IsReport files words report
  reports_listed listing report lists is = record {
    end = listed listing;
    has = of_command (commands.Atn atn) (listed listing) command (rule_listed lists.0 listing lists.1);
    is = is;
    meant = λ parse is_parse. tt;
  }

module _ (files : Files) (words : List (List ℕ)) (parse : Parse)
    (command : IsCommand words (commands.Parse parse)) where
  -- a command without an interpreter
  pub stops_unbuilt : (halt : Halt) → IsHaltOf (AfterFetches (Builds files parse.library parse.grammar parse.start)) halt
      → ReportsOrHalts files words (Err halt)
  stops_unbuilt (halts.Stop stop) h = of_command (commands.Parse parse) (stopped stop) command (not_built h.0 stop h.1)
  stops_unbuilt halts.Failed h = tt
  stops_unbuilt halts.NoMemory h = tt

  module _ (interpreter : Interpreter) (built : AfterFetches (Builds files parse.library parse.grammar parse.start) (Ok interpreter)) where
    -- a command with too many cells
    pub stops_many : (halt : Halt) → Refuses parse.grammar parse.rows interpreter (Err halt) → ReportsOrHalts files words (Err halt)
    stops_many (halts.Stop stop) h = subst (λ (s : Stop). HasEnd files words (stopped s)) (sym h.1)
        (of_command (commands.Parse parse) (stopped (stops.Fault parse.grammar faults.Cells)) command
        (many_cells built.0 interpreter built.1 h.0))
    stops_many halts.Failed h = absurd h
    stops_many halts.NoMemory h = tt

  module _ (interpreter : Interpreter) (built : AfterFetches (Builds files parse.library parse.grammar parse.start) (Ok interpreter))
      (fits : ¬ (HasManyCells parse.rows interpreter)) where
    -- a command without one of its files
    pub stops_absent : {X : Type 0} (view : X → List Input) (halt : Halt) → GivesInputs view (inputs_of files parse.files) (Err halt)
        → ReportsOrHalts files words (Err halt)
    stops_absent view (halts.Stop stops.Usage) h = absurd h
    stops_absent view (halts.Stop (stops.Absent name)) h =
        of_command (commands.Parse parse) (stopped (stops.Absent name)) command (file_absent built.0 interpreter name built.1 fits h)
    stops_absent view (halts.Stop (stops.TooLarge name size)) h = absurd h
    stops_absent view (halts.Stop (stops.Fault name fault)) h = absurd h
    stops_absent view halts.Failed h = tt
    stops_absent view halts.NoMemory h = tt

    abbrev flagged : Interpreter
    flagged = with_flags parse.flags interpreter

    -- a command whose files are parsed
    pub reports_files : (inputs : List Input) (made : Parsed) (learned : Option Tally) (count : ℕ) (report : Report)
        → inputs_of files parse.files ≡ Ok inputs → length parse.files ≡ length inputs → count ≡ length parse.files
        → AreParsed parse.output flagged parse.files inputs made → IsTold parse.learned parse.rows flagged inputs learned
        → IsReportOfFiles made learned count report → IsReport files words report
    reports_files inputs made learned count report there paired counted are told is =
        let all : count ≡ length are.outcomes = counted ∙ paired ∙ sym (as_many flagged inputs are.outcomes are.are) in record {
          end = all_parsed parse.output flagged parse.files are.outcomes learned;
          has = of_command (commands.Parse parse) (all_parsed parse.output flagged parse.files are.outcomes learned) command
              (files_parsed built.0 interpreter inputs are.outcomes learned built.1 fits there are.are told);
          is = record {
            lines = is.lines ∙ ap (λ ls. ls ++ closing_line count made.accepted ∷ learned_lines learned) are.lines
                ∙ ap (λ n. lines_of_files parse.output flagged parse.files are.outcomes ++ closing_line n made.accepted
                ∷ learned_lines learned) all
                ∙ ap (λ n. lines_of_files parse.output flagged parse.files are.outcomes ++ closing_line (length are.outcomes) n
                ∷ learned_lines learned) are.accepted;
            status = is.status ∙ ap (λ (n : ℕ). if made.accepted == n then Done else Refused) all
                ∙ ap (λ (n : ℕ). if n == length are.outcomes then Done else Refused) are.accepted
                ∙ ap (λ (b : Bool). if b then Done else Refused) (all_counted are.outcomes);
          };
          meant = λ other is_other. (
              let one : commands.Parse parse ≡ commands.Parse other =
              one_command words (commands.Parse parse) (commands.Parse other) command is_other in
              let same : parse ≡ other = cc in
              meant_from flagged other.start are.outcomes
              (subst (λ (q : Parse). IsNetworkFrom interpreter q.start) same
              (network_from files parse.library parse.grammar parse.start built.0 interpreter built.1)) are.meant);
        }

module _ (files : Files) (words : List (List ℕ)) (answer : Status) (report : Report) (is : IsReport files words report)
    (same : answer ≡ report.status) where
  -- each status comes exactly where the words have an end with it
  pub comes_exactly : ComesExactly files words answer
  comes_exactly status = (
    λ e. record { end = is.end; has = is.has; is = sym is.is.status ∙ sym same ∙ e },
    λ m. same ∙ is.is.status ∙ ap status_of (one_end files words is.end m.end is.has m.has) ∙ m.is,
  )

  -- the end of a command that can be run
  parse_done : (can : CanBeRun files words) (end : End) → EndsParse files can.parse end → (status_of end ≡ Done) ⊎ (status_of end ≡ Refused)
  parse_done can _ (not_built fetched stop h) =
      let same = same_built files can.parse fetched can.fetched (Err stop) (Ok can.interpreter) h can.built in
      absurd (let no_way : ⊥ = cc in no_way)
  parse_done can _ (many_cells fetched interpreter h many) =
      absurd (can.fits (same_many files can.parse fetched can.fetched interpreter can.interpreter h can.built many))
  parse_done can _ (file_absent fetched interpreter name h fits k) =
      let same = same_inputs files can.parse (Err name) (Ok can.inputs) k can.there in
      absurd (let no_way : ⊥ = cc in no_way)
  parse_done can _ (files_parsed fetched interpreter inputs outcomes learned h fits k l told) = either (list_all is_accepted outcomes)
    where
      either : (b : Bool) → ((if b then Done else Refused) ≡ Done) ⊎ ((if b then Done else Refused) ≡ Refused)
      either true = inl refl
      either false = inr refl

  done_or_refused : (end : End) → HasEnd files words end → CanBeRun files words → (status_of end ≡ Done) ⊎ (status_of end ≡ Refused)
  done_or_refused _ (no_command none) can = absurd (none (commands.Parse can.parse) can.command)
  done_or_refused _ (of_command command end is h) can =
      parse_done can end (subst (λ (c : Command). Ends files c end) (one_command words command (commands.Parse can.parse) is can.command) h)

  -- a command that can be run is Done or Refused
  pub is_complete : IsComplete files words answer
  is_complete can = elim (done_or_refused is.end is.has can)
      [ inl done ↦ inl (same ∙ is.is.status ∙ done) | inr refused ↦ inr (same ∙ is.is.status ∙ refused) ]
