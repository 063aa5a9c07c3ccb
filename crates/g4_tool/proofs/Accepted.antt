-- Files are accepted by the text of their grammar.
use Rattle.std.proofs.Common.{◌≡◌, ◌≢◌, ◌↔◌, ℕ, List, [], ◌∷◌, Result, Ok, All, refl, sym, subst, true≢false}
use Rattle.std.proofs.lemmas.List.Elements.{All-cons, All-head, All-nil, All-tail}
use Rattle.g4_tokens.specs.Symbols.{eof}
use Rattle.g4_tokens.specs.TokenList.{word_of}
use Rattle.g4_tokens.specs.declared.token.Tokens.{Tokens}
use Rattle.g4_words.proofs.OneCommand.{one_command}
use Rattle.g4_words.specs.Commands.{IsCommand}
use Rattle.g4_words.specs.declared.command.Command.{Command}
use Rattle.g4_words.specs.declared.command.Command.TheVariants as commands
use Rattle.g4_words.specs.declared.command.Parse.{Parse}
use Rattle.g4_fetch.specs.Files.{Files}
use Rattle.g4_grammar.specs.StepRules.{AreUnpredicated}
use Rattle.g4_derivation.specs.Spelling.{DerivesFrom}
use Rattle.g4_resolve.specs.Resolving.{RulesAreUntested}
use Rattle.g4_load.specs.Building.{Builds, FromGrammar}
use Rattle.g4_load.specs.Derivations.{DerivesList}
use Rattle.g4_load.specs.Loading.{Loads, LoadsUnited, Unifies}
use Rattle.g4_load.specs.Stages.{OfFile, Then, goes_on, stops}
use Rattle.g4_load.specs.Usable.{with_flags}
use Rattle.g4_load.specs.declared.interpreter.Interpreter.{Interpreter}
use Rattle.g4_load.specs.declared.whole.United.{United}
use Rattle.g4_parse.specs.declared.parser.ParseFault.{ParseFault}
use Rattle.g4_parse.specs.declared.parser.ParseFault.TheVariants as faults
use Rattle.g4_outcome.specs.Meaning.{IsMeant}
use Rattle.g4_outcome.specs.Outcomes.{AreOutcomes, IsOutcome, not_lexed, not_parsed, parsed, too_large}
use Rattle.g4_outcome.specs.declared.input.Input.{Input}
use Rattle.g4_outcome.specs.declared.outcome.Outcome.{Outcome}
use Rattle.g4_outcome.specs.declared.outcome.Outcome.TheVariants as outcomes
use Rattle.g4_tool.specs.Acceptance.{AcceptsByText, IsAcceptedByText, IsTooDeep}
use Rattle.g4_tool.specs.Ends.{End, EndsParse, Ends, HasEnd, file_absent, files_parsed, many_cells, no_command, not_built, of_command}
use Rattle.g4_tool.specs.Report.{IsMeantEnd, IsReport}
use Rattle.g4_tool.specs.declared.report.Report.{Report}

-- an interpreter derives from this rule what the text does, and has no predicate where the text has none
abbrev pub DerivesAsText : United → Interpreter → List ℕ → Type 0
DerivesAsText united made start = ((list : List ℕ) → DerivesFrom (eof ∷ []) made.rules start list ↔ DerivesList united start list)
    × (RulesAreUntested united.whole.source.rules → AreUnpredicated made.rules)

-- each that is built does
abbrev pub AllDeriveAsText : Files → Parse → Type 0
AllDeriveAsText files parse = (f g : List (List ℕ)) (united : United) (made : Interpreter)
    → Unifies files parse.library parse.grammar f (Ok united) → Builds files parse.library parse.grammar parse.start g (Ok made)
    → DerivesAsText united made parse.start

-- where two stages give something, the first gives something
first_gives : {X Y F : Type 0} (First : Result X F → Type 0) (Second : X → Result Y F → Type 0) (r : Result Y F) (y : Y) → r ≡ Ok y
    → Then First Second r → (x : X) × First (Ok x)
first_gives First Second _ y same (stops fault is) = absurd (let no_way : ⊥ = cc in no_way)
first_gives First Second _ y same (goes_on x _ is more) = (x, is)

module _ (united : United) (made : Interpreter) (start : List ℕ) (text : DerivesAsText united made start) where
  -- the tokens of a file with a fault of the parser are not derived
  refused : (tokens : Tokens) (fault : ParseFault) → fault ≢ faults.NoMemory → IsMeant made start (outcomes.Parse tokens fault)
      → RulesAreUntested united.whole.source.rules → ¬ IsTooDeep (outcomes.Parse tokens fault)
      → DerivesList united start (word_of tokens.list) → ⊥
  refused tokens (faults.NoViable at) memory meant plain low d = meant (text.1 plain) ((text.0 (word_of tokens.list)).1 d)
  refused tokens (faults.Mismatch at state) memory meant plain low d = meant (text.1 plain) ((text.0 (word_of tokens.list)).1 d)
  refused tokens (faults.FailedPredicate at rule) memory meant plain low d = meant (text.1 plain) ((text.0 (word_of tokens.list)).1 d)
  refused tokens (faults.TooDeep at) memory meant plain low d = low (tokens, at, refl)
  refused tokens faults.NoMemory memory meant plain low d = memory refl

  -- a file is accepted by the text
  one_accepted : (input : Input) (outcome : Outcome) → IsOutcome made input outcome → IsMeant made start outcome
      → IsAcceptedByText united start outcome
  one_accepted input _ (too_large size given) meant = record {
    only = λ yes. absurd (true≢false (sym yes));
    exactly = λ plain low. (λ yes. absurd (true≢false (sym yes)), λ d. absurd d.1);
  }
  one_accepted input _ (not_lexed bytes fault given lexed memory) meant = record {
    only = λ yes. absurd (true≢false (sym yes));
    exactly = λ plain low. (λ yes. absurd (true≢false (sym yes)), λ d. absurd d.1);
  }
  one_accepted input _ (not_parsed bytes tokens fault given lexed is memory) meant = record {
    only = λ yes. absurd (true≢false (sym yes));
    exactly = λ plain low. (
      λ yes. absurd (true≢false (sym yes)),
      λ (own, same, d). absurd (refused tokens fault memory meant plain low
          (subst (λ (ts : Tokens). DerivesList united start (word_of ts.list)) (sym same) d)),
    );
  }
  one_accepted input _ (parsed bytes tokens tree given lexed is) meant =
      let derived : DerivesList united start (word_of tokens.list) = (text.0 (word_of tokens.list)).0 meant.0 in record {
        only = λ yes. (tokens, refl, derived);
        exactly = λ plain low. (λ yes. (tokens, refl, derived), λ d. refl);
      }

  -- and so are all
  all_accepted : (inputs : List Input) (os : List Outcome) → AreOutcomes made inputs os → All (IsMeant made start) os
      → All (IsAcceptedByText united start) os
  all_accepted [] [] are meant = All-nil (IsAcceptedByText united start)
  all_accepted [] (o ∷ os) are meant = absurd are
  all_accepted (input ∷ inputs) [] are meant = absurd are
  all_accepted (input ∷ inputs) (o ∷ os) are meant = All-cons (IsAcceptedByText united start) o os
      (one_accepted input o are.0 (All-head (IsMeant made start) o os meant))
      (all_accepted inputs os are.1 (All-tail (IsMeant made start) o os meant))

module _ (files : Files) (parse : Parse) (texts : AllDeriveAsText files parse) where
  -- the text of the grammar of an interpreter
  text_of : (g : List (List ℕ)) (made : Interpreter) → Builds files parse.library parse.grammar parse.start g (Ok made)
      → (united : United) × Unifies files parse.library parse.grammar g (Ok united)
  text_of g made builds =
      let loads = first_gives (Loads files parse.library parse.grammar g)
      (λ grammar. OfFile parse.grammar (FromGrammar parse.start grammar)) (Ok made) made refl builds in
      first_gives (Unifies files parse.library parse.grammar g) (LoadsUnited parse.grammar) (Ok loads.0) loads.0 refl loads.1

  -- an end where files are parsed
  by_end : (end : End) → EndsParse files parse end → IsMeantEnd parse.start end → AcceptsByText files parse end
  by_end _ (not_built g stop h) meant = tt
  by_end _ (many_cells g made h many) meant = tt
  by_end _ (file_absent g made name h few absent) meant = tt
  by_end _ (files_parsed g made inputs os learned h few there are told) meant =
      let text = text_of g made h in record {
        fetched = g;
        united = text.0;
        text = text.1;
        each = all_accepted text.0 (with_flags parse.flags made) parse.start (texts g g text.0 made text.1 h) inputs os are meant;
      }

  -- the end of words that parse files
  parse_ends : (words : List (List ℕ)) (end : End) → IsCommand words (commands.Parse parse) → HasEnd files words end
      → EndsParse files parse end
  parse_ends words _ command (no_command none) = absurd (none (commands.Parse parse) command)
  parse_ends words _ command (of_command other end is ends) =
      subst (λ (c : Command). Ends files c end) (one_command words other (commands.Parse parse) is command) ends

  -- of a report
  pub by_report : (words : List (List ℕ)) (report : Report) (is : IsReport files words report) → IsCommand words (commands.Parse parse)
      → AcceptsByText files parse is.end
  by_report words report is command = by_end is.end (parse_ends words is.end command is.has) (is.meant parse command)
