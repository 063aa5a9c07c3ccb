-- No command of the lexer rules of a grammar is passed over.
use Rattle.std.proofs.Common.{◌≡◌, ℕ, List, [], map, Option, Some, Result, Ok, All, sym, ap, ◌∙◌, subst}
use Rattle.std.specs.List.{filter_map}
use Rattle.std.specs.Option.{IsSome}
use Rattle.std.proofs.lemmas.List.Elements.{All-weaker}
use Rattle.g4_source.specs.declared.rule.Command.{Command}
use Rattle.g4_source.specs.declared.source.Source.{Source}
use Rattle.g4_checks.specs.Checking.{IsChecked}
use Rattle.g4_grammar.specs.declared.token_types.TokenName.{TokenName}
use Rattle.g4_checks.specs.References.{commands_in}
use Rattle.g4_vocab.specs.Answers.{FitsLimits}
use Rattle.g4_vocab.specs.Numbering.{types_of}
use Rattle.g4_vocab.specs.Shown.{names_of}
use Rattle.g4_lexer.specs.declared.command.LexerCommand.{LexerCommand}
use Rattle.g4_lexer.specs.declared.lexer.Lexer.{Lexer}
use Rattle.g4_lexer_rules.specs.NetworkRules.{all_rules, commands_of}
use Rattle.g4_lexer_rules.specs.declared.lexer_rules.LexerRules.{LexerRules}
use Rattle.g4_lexer_rules.specs.Commands.{command_of}
use Rattle.g4_lexer_rules.specs.Known.{IsKnown}
use Rattle.g4_lexer_rules.specs.Tables.{tables_of}
use Rattle.g4_lexer_rules.specs.declared.tables.CommandTables.{CommandTables}
use Rattle.g4_net.specs.Network.{ParserNetwork}
use Rattle.g4_load.specs.Building.{Builds, FromGrammar, HasLexer, Lays, interpreter_of}
use Rattle.g4_load.specs.Commands.{CarriesOutAll, IsCarriedOut, written_commands}
use Rattle.g4_load.specs.Faults.{of_check, of_lexer, of_number}
use Rattle.g4_fetch.specs.Files.{Files}
use Rattle.g4_token_file.specs.declared.entry.TokenEntry.{TokenEntry}
use Rattle.g4_lexer_rules.specs.Lexers.{GivesLexer}
use Rattle.g4_load.specs.Loading.{Checks, HandsOn, IsLoaded, Loads, LoadsUnited, Numbers, Unifies}
use Rattle.g4_load.specs.Stages.{Gives, Then, OfFile}
use Rattle.g4_load.specs.declared.fault.GrammarFault.{GrammarFault}
use Rattle.g4_load.specs.declared.interpreter.Interpreter.{Interpreter}
use Rattle.g4_load.specs.declared.loading.Loaded.{Loaded}
use Rattle.g4_load.specs.declared.stop.Stop.{Stop}
use Rattle.g4_load.specs.declared.whole.United.{United}
use Rattle.g4_load.proofs.KnownCommands.{all_known}
use Rattle.g4_load.proofs.OneBuilt.{one_loaded, one_unified}
use Rattle.g4_load.proofs.Located.{whole_gives}
use Rattle.g4_load.proofs.Stages.{both_give, file_gives}
use Rattle.g4_load.proofs.WrittenCommands.{of_all_rules, same_map}

-- What is known of a grammar and its source: its commands are known.
pub record IsOf (table : List TokenEntry) (source : Source) (loaded : Loaded) : Type 0 where
  pub made : IsLoaded table source loaded
  pub known : All (IsKnown source (names_of (types_of table source))) (commands_in source)

-- a source that is checked
is_of : (table : List TokenEntry) (source : Source) (loaded : Loaded) → Numbers table source (Ok loaded) → IsOf table source loaded
is_of table source loaded h =
    let numbers = both_give (Gives (FitsLimits table source) of_number) (λ _. Checks table source) loaded h in
    let checks = both_give (Gives (IsChecked source) of_check) (λ _. HandsOn table source) loaded numbers.2 in
    record {
      made = checks.2;
      known = all_known table source checks.1.0;
    }

-- what the code makes of the commands of a grammar: of each alternative those that are carried out
abbrev made_commands : Loaded → List (List (List LexerCommand))
made_commands loaded = map (map (filter_map (command_of loaded.lexer.1))) (written_commands loaded)

-- the lexer of an interpreter has them
interpreter_lexer : (start : List ℕ) (loaded : Loaded) (made : Interpreter) → FromGrammar start loaded (Ok made)
    → made.lexer.commands ≡ made_commands loaded
interpreter_lexer start loaded made h = by_stages (both_give (Lays start loaded.rules) (HasLexer loaded) made h)
  where
    by_lexer : (net : ParserNetwork) → (lexer : Lexer) × Gives (GivesLexer loaded.lexer.0 loaded.lexer.1) of_lexer (Ok lexer)
        × ◌≡◌ {A = Result Interpreter GrammarFault} (Ok made) (Ok (interpreter_of loaded net lexer))
        → made.lexer.commands ≡ made_commands loaded
    by_lexer net (lexer, gives, ok) =
        let is : made ≡ interpreter_of loaded net lexer = cc in
        ap (λ (i : Interpreter). i.lexer.commands) is
        ∙ (ap (λ (l : Lexer). l.commands) gives.2 ∙ ap (map (map (filter_map (command_of loaded.lexer.1)))) gives.1.commands)

    by_stages : (net : ParserNetwork) × Lays start loaded.rules (Ok net) × HasLexer loaded net (Ok made)
        → made.lexer.commands ≡ made_commands loaded
    by_stages (net, lays, has) = by_lexer net (both_give (Gives (GivesLexer loaded.lexer.0 loaded.lexer.1) of_lexer)
        (λ lexer result. result ≡ Ok (interpreter_of loaded net lexer)) made has)

-- a known command is carried out
abbrev pub KnownAreCarriedOut : Type 0
KnownAreCarriedOut = (source : Source) (types : List TokenName) (command : Command) → IsKnown source types command
    → IsSome (command_of (tables_of source types) command)

-- of known commands none is passed over
abbrev pub KnownAreKept : Type 0
KnownAreKept = (source : Source) (types : List TokenName) (commands : List Command) → All (IsKnown source types) commands
    → map Some (filter_map (command_of (tables_of source types)) commands) ≡ map (command_of (tables_of source types)) commands

module _ (table : List TokenEntry) (source : Source) (loaded : Loaded) (is : IsOf table source loaded) where
  -- the names of the types
  abbrev names : List TokenName
  names = names_of (types_of table source)

  tables_are : loaded.lexer.1 ≡ tables_of source names
  tables_are = ap (λ (l : LexerRules × CommandTables). l.1) is.made.lexer

  -- each command of the source of a grammar is carried out
  each_of : KnownAreCarriedOut → All (IsCarriedOut loaded) (commands_in source)
  each_of carried =
      All-weaker (IsKnown source names) (IsCarriedOut loaded)
      (λ command known. subst (λ (t : CommandTables). IsSome (command_of t command)) (sym tables_are)
      (carried source names command known)) (commands_in source) is.known

  -- and of the commands of its lexer none is passed over
  all_of : KnownAreKept
      → map (map (map Some)) (made_commands loaded) ≡ map (map (map (command_of loaded.lexer.1))) (written_commands loaded)
  all_of kept =
      let Known : Command → Type 0 = IsKnown source names in
      let does : Command → Option LexerCommand = command_of loaded.lexer.1 in
      let all : All (All (All Known)) (written_commands loaded) =
      subst (λ (l : LexerRules). All (All (All Known)) (commands_of (all_rules l.literals l.rules)))
      (sym (ap (λ (l : LexerRules × CommandTables). l.0) is.made.lexer)) (of_all_rules Known table source is.known) in
      let one : (commands : List Command) → All Known commands → map Some (filter_map does commands) ≡ map does commands =
      λ commands h. subst (λ (t : CommandTables). map Some (filter_map (command_of t) commands) ≡ map (command_of t) commands)
      (sym tables_are) (kept source names commands h) in
      same_map (map (map Some)) (map (filter_map does)) (map (map does)) (All (All Known))
      (same_map (map Some) (filter_map does) (map does) (All Known) one) (written_commands loaded) all

module _ (files : Files) (library : Option (List ℕ)) (name : List ℕ) where
  -- a grammar that is loaded, and its source
  pub loaded_from : (f : List (List ℕ)) (loaded : Loaded) → Loads files library name f (Ok loaded)
      → (united : United) × Unifies files library name f (Ok united) × IsOf united.table united.whole.source loaded
  loaded_from f loaded h =
      let stages = both_give (Unifies files library name f) (LoadsUnited name) loaded h in (
        stages.0,
        stages.1,
        is_of stages.0.table stages.0.whole.source loaded
            (whole_gives name stages.0.whole (Numbers stages.0.table stages.0.whole.source) loaded stages.2),
      )

  -- each command of its source is carried out
  pub each_carried_out : KnownAreCarriedOut → (f g : List (List ℕ)) (united : United) (loaded : Loaded)
      → Unifies files library name f (Ok united) → Loads files library name g (Ok loaded)
      → All (IsCarriedOut loaded) (commands_in united.whole.source)
  each_carried_out carried f g united loaded unifies loads = by_source (loaded_from g loaded loads)
    where
      by_source : (other : United) × Unifies files library name g (Ok other) × IsOf other.table other.whole.source loaded
          → All (IsCarriedOut loaded) (commands_in united.whole.source)
      by_source (other, also, is) =
          let one : ◌≡◌ {A = Result United Stop} (Ok united) (Ok other) =
          one_unified files library name f g (Ok united) (Ok other) unifies also in
          let same : other ≡ united = cc in
          subst (λ (s : United). All (IsCarriedOut loaded) (commands_in s.whole.source)) same
          (each_of other.table other.whole.source loaded is carried)

  -- and the lexer of the interpreter has all of them
  pub all_carried_out : KnownAreKept → (start : List ℕ) (f g : List (List ℕ)) (loaded : Loaded) (made : Interpreter)
      → Loads files library name f (Ok loaded) → Builds files library name start g (Ok made) → CarriesOutAll loaded made.lexer
  all_carried_out kept start f g loaded made loads builds =
      by_grammar (both_give (Loads files library name g) (λ grammar. OfFile name (FromGrammar start grammar)) made builds)
    where
      by_source : made.lexer.commands ≡ made_commands loaded
          → (united : United) × Unifies files library name f (Ok united) × IsOf united.table united.whole.source loaded
          → CarriesOutAll loaded made.lexer
      by_source written (united, unifies, is) =
          ap (map (map (map Some))) written ∙ all_of united.table united.whole.source loaded is kept

      by_grammar : (other : Loaded) × Loads files library name g (Ok other) × OfFile name (FromGrammar start other) (Ok made)
          → CarriesOutAll loaded made.lexer
      by_grammar (other, also, from) =
          let one : ◌≡◌ {A = Result Loaded Stop} (Ok other) (Ok loaded) =
          one_loaded files library name g f (Ok other) (Ok loaded) also loads in
          let same : other ≡ loaded = cc in
          let here : FromGrammar start loaded (Ok made) =
          subst (λ (l : Loaded). FromGrammar start l (Ok made)) same (file_gives name (FromGrammar start other) made from) in
          by_source (interpreter_lexer start loaded made here) (loaded_from f loaded loads)
