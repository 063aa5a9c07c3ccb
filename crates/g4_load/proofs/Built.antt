-- The stages of loading and building a grammar, and the exits from them.
use Rattle.std.specs.Prelude.{⊤}
use Rattle.std.proofs.Common.{◌≡◌, ◌≤◌, ℕ, List, Option, Result, Ok, Err, [], ◌∷◌, ◌+◌, ◌*◌, length, ap, ◌∙◌, subst, sym, refl}
use Rattle.g4_source.specs.declared.source.Source.{Source}
use Rattle.g4_vocab.specs.Answers.{CausesNumberFault, FitsLimits, IsVocabularyOf}
use Rattle.g4_vocab.specs.Numbering.{own_of, token_lexers, types_of}
use Rattle.g4_vocab.specs.Shown.{literals_of, names_of, token_types}
use Rattle.g4_vocab.specs.Vocabularies.{lexers_in, own_in, types_in}
use Rattle.g4_vocab.specs.declared.fault.NumberFault.{NumberFault}
use Rattle.g4_token_file.specs.Keys.{greatest_number}
use Rattle.g4_token_file.specs.declared.entry.TokenEntry.{TokenEntry}
use Rattle.g4_source.specs.declared.atom.Literal.{Literal}
use Rattle.g4_source.specs.declared.rule.LexerRule.{LexerRule}
use Rattle.g4_vocab.specs.declared.vocabulary.Vocabulary.{Vocabulary}
use Rattle.g4_checks.specs.Checking.{IsChecked}
use Rattle.g4_checks.specs.declared.fault.CheckFault.{CheckFault}
use Rattle.g4_source.specs.declared.refused.Refused.{Refused}
use Rattle.g4_grammar.specs.StepRules.{StepRule}
use Rattle.g4_grammar.specs.declared.step.Numbering.{Numbering}
use Rattle.g4_grammar.specs.declared.token_types.TokenLiteral.{TokenLiteral}
use Rattle.g4_grammar.specs.declared.token_types.TokenName.{TokenName}
use Rattle.g4_grammar.specs.declared.token_types.TokenTypes.{TokenTypes}
use Rattle.g4_leftrec.specs.Rewriting.{rewritten, numberings}
use Rattle.g4_load.specs.Usable.{IsParsing}
use Rattle.g4_layout.specs.Built.{IsBuilt}
use Rattle.g4_layout.specs.Rules.{rule_number}
use Rattle.g4_tokens.specs.Symbols.{eof}
use Rattle.g4_net.specs.Network.{ParserNetwork}
use Rattle.g4_resolve.specs.Resolving.{resolved}
use Rattle.g4_build.specs.Answers.{GivesNetwork}
use Rattle.g4_build.specs.declared.builder.BuildFault.{BuildFault}
use Rattle.g4_load.specs.declared.fault.GrammarFault.{GrammarFault}
use Rattle.g4_load.specs.declared.fault.GrammarFault.TheVariants as faults
use Rattle.g4_load.specs.declared.fault.CheckError.{CheckError}
use Rattle.g4_load.specs.declared.fault.CheckError.TheVariants as errors
use Rattle.g4_load.specs.Faults.{of_number, of_check, of_build, of_lexer}
use Rattle.g4_load.specs.declared.stop.Stop.{Stop}
use Rattle.g4_load.specs.declared.stop.Stop.TheVariants as stopping
use Rattle.g4_load.specs.declared.stop.Halt.{Halt}
use Rattle.g4_load.specs.declared.stop.Halt.TheVariants as halts
use Rattle.g4_load.specs.Stages.{AfterFetches, Gives, Then, stops, goes_on, OfFile, passes, fails, IsErrorOf, IsHaltOf}
use Rattle.g4_fetch.specs.Files.{Files}
use Rattle.g4_tokens.specs.declared.symbol.TheConstants.{MOST_TYPES}
use Rattle.g4_lexer_rules.specs.Tables.{tables_of}
use Rattle.g4_lexer_rules.specs.declared.tables.CommandTables.{CommandTables}
use Rattle.g4_lexer_rules.specs.Rules.{IsLexerRulesOf}
use Rattle.g4_lexer_rules.specs.declared.lexer_rules.LexerRules.{LexerRules}
use Rattle.g4_lexer_rules.specs.Lexers.{GivesLexer}
use Rattle.g4_lexer_rules.specs.declared.lex_net.LexFault.{LexFault}
use Rattle.g4_lexer_rules.specs.declared.lex_net.LexFault.TheVariants.{States, NoMemory}
use Rattle.g4_load.specs.Loading.{Checks, HandsOn, IsLoaded, IsNumbered, Numbers, Loads, rules_of_lexer}
use Rattle.g4_load.specs.declared.loading.Loaded.{Loaded}
use Rattle.g4_load.specs.declared.loading.Numbered.{Numbered}
use Rattle.g4_load.specs.Building.{GivesRewritten, Lays, FromGrammar}

-- a layer's fault at which a stage ends
pub stage_exit : {X Y E : Type 0} (IsAnswer : Result X E → Type 0) (seen : E → CheckError)
    (Second : X → Result Y GrammarFault → Type 0) (e : E) →
    IsAnswer (Err e) → IsErrorOf (Then (Gives IsAnswer seen) Second) (seen e)
stage_exit IsAnswer seen Second e is = by_seen (seen e) refl
  where
    by_seen : (error : CheckError) → seen e ≡ error → IsErrorOf (Then (Gives IsAnswer seen) Second) error
    by_seen (errors.Fault fault) same = stops fault (e, is, same)
    by_seen errors.NoMemory same = tt

-- the same of a stage alone
pub gift_exit : {X E : Type 0} (IsAnswer : Result X E → Type 0) (seen : E → CheckError) (e : E) → IsAnswer (Err e)
    → IsErrorOf (Gives IsAnswer seen) (seen e)
gift_exit IsAnswer seen e is = by_seen (seen e) refl
  where
    by_seen : (error : CheckError) → seen e ≡ error → IsErrorOf (Gives IsAnswer seen) error
    by_seen (errors.Fault fault) same = (e, is, same)
    by_seen errors.NoMemory same = tt

-- the error that a call gives is that of a stage
pub reported : {X : Type 0} (Stage : Result X GrammarFault → Type 0) (made error : CheckError) → made ≡ error → IsErrorOf Stage error
    → IsErrorOf Stage made
reported Stage made error same h = subst (λ (e : CheckError). IsErrorOf Stage e) (sym same) h

-- an error of a stage is one of the whole
error_within : {X : Type 0} (Stage Whole : Result X GrammarFault → Type 0) (within : (r : Result X GrammarFault) → Stage r → Whole r)
    (error : CheckError) → IsErrorOf Stage error → IsErrorOf Whole error
error_within Stage Whole within (errors.Fault fault) h = within (Err fault) h
error_within Stage Whole within errors.NoMemory h = tt

module _ (start : List ℕ) (rules : List StepRule) where
  -- the answer of building, where the rules are these, rewritten
  pub gives_rewritten : (made : List StepRule) (numbers : List Numbering) (r : Result ParserNetwork BuildFault)
      → made ≡ rewritten rules → numbers ≡ numberings rules → GivesNetwork made numbers start r → GivesRewritten start rules r
  gives_rewritten made numbers r laid numbered is =
      subst (λ (ns : List Numbering). GivesNetwork (rewritten rules) ns start r) numbered
      (subst (λ (ms : List StepRule). GivesNetwork ms numbers start r) laid is)

  -- rules without a network
  pub build_exit : (e : BuildFault) → GivesRewritten start rules (Err e) → IsErrorOf (Lays start rules) (of_build start e)
  build_exit e is = gift_exit (GivesRewritten start rules) (of_build start) e is

-- rules and their network can be parsed with
pub parsing : (start : List ℕ) (rules made : List StepRule) (numbers : List Numbering) (net : ParserNetwork)
    → made ≡ rewritten rules → numbers ≡ numberings rules → GivesNetwork made numbers start (Ok net) → IsParsing rules net
parsing start rules made numbers net laid numbered built =
    let here : IsBuilt (eof ∷ []) (rewritten rules) (numberings rules) start net =
    subst (λ (ns : List Numbering). IsBuilt (eof ∷ []) (rewritten rules) ns start net) numbered
    (subst (λ (ms : List StepRule). IsBuilt (eof ∷ []) ms numbers start net) laid built) in record {
      ready = (rule_number (rewritten rules) start, 2 * length (rewritten rules) + 2, eof ∷ [], here.runnable);
      built = (start, here);
    }

-- the rules of a source's lexer
lexer_is : (table : List TokenEntry) (source : Source) (names : List TokenName) (literals : List TokenLiteral) (made : LexerRules)
    → names ≡ names_of (types_of table source) → literals ≡ literals_of table source
    → IsLexerRulesOf names literals source.rules made → made ≡ rules_of_lexer table source
lexer_is table source names literals made named there are = rw (are.literals_are, are.rules, are.types, named, there) refl

-- a stage that stops, stops what follows it
pub stage_stops : {X Y : Type 0} (Stage : Result X GrammarFault → Type 0) (Second : X → Result Y GrammarFault → Type 0)
    (error : CheckError) → IsErrorOf Stage error → IsErrorOf (Then Stage Second) error
stage_stops Stage Second (errors.Fault fault) h = stops fault h
stage_stops Stage Second errors.NoMemory h = tt

-- a lexer with too many states
pub lexer_exit : (start : List ℕ) (grammar : Loaded) (net : ParserNetwork) (e : LexFault) → Lays start grammar.rules (Ok net)
    → GivesLexer grammar.lexer.0 grammar.lexer.1 (Err e) → IsErrorOf (FromGrammar start grammar) (of_lexer e)
lexer_exit start grammar net States is h = goes_on net (Err faults.States) is (stops faults.States (States, h, refl))
lexer_exit start grammar net NoMemory is h = tt

module _ (table : List TokenEntry) (source : Source) where
  -- a grammar that is not numbered
  pub number_exit : (e : NumberFault) → CausesNumberFault table source e → IsErrorOf (Numbers table source) (of_number e)
  number_exit e is = stage_exit (FitsLimits table source) of_number (λ _. Checks table source) e is

  module _ (vocabulary : Vocabulary) (numbered : IsVocabularyOf table source vocabulary) where
    pub fits_limits : FitsLimits table source (Ok tt)
    fits_limits = (
      numbered.fits.few_rules,
      subst (λ (types : List TokenEntry). greatest_number types ≤ MOST_TYPES) numbered.types numbered.fits.few_types,
    )

    -- its token types
    pub types_are : token_types (lexers_in vocabulary) (own_in vocabulary) (types_in vocabulary)
        ≡ token_types (token_lexers source.rules) (own_of source) (types_of table source)
    types_are =
        ap (λ (ls : List LexerRule). token_types ls (own_in vocabulary) (types_in vocabulary)) numbered.fits.lexers
        ∙ (ap (λ (ls : List Literal). token_types (token_lexers source.rules) ls (types_in vocabulary)) numbered.own
        ∙ ap (token_types (token_lexers source.rules) (own_of source)) numbered.types)

    -- a grammar that cannot be run
    pub check_exit : (e : Refused CheckFault) → IsChecked source (Err e) → IsErrorOf (Numbers table source) (of_check e)
    check_exit e is = error_within (Checks table source) (Numbers table source) (λ r h. goes_on tt r fits_limits h) (of_check e)
        (stage_exit (IsChecked source) of_check (λ _. HandsOn table source) e is)

  module _ (numbered : Numbered) (is : IsNumbered table source numbered) where
    -- a grammar without fault
    pub loaded_is : (tables : CommandTables) (lexer : LexerRules) → tables ≡ tables_of source numbered.types.names
        → IsLexerRulesOf numbered.types.names numbered.types.literals source.rules lexer
        → IsLoaded table source (record {
          rules = numbered.rules;
          predicates = numbered.predicates;
          shown = numbered.types.shown;
          lexer = (lexer, tables);
        })
    loaded_is tables lexer named are = record {
      rules = is.rules;
      predicates = is.predicates;
      shown = ap (λ (t : TokenTypes). t.shown) is.types;
      lexer = rw (
        lexer_is table source numbered.types.names numbered.types.literals lexer (ap (λ (t : TokenTypes). t.names) is.types)
            (ap (λ (t : TokenTypes). t.literals) is.types) are,
        named,
        is.types,
      ) refl;
    }

    -- is loaded
    pub numbers_give : (loaded : Loaded) → IsLoaded table source loaded → Numbers table source (Ok loaded)
    numbers_give loaded h = goes_on tt (Ok loaded) is.fits (goes_on tt (Ok loaded) is.checked h)

-- what a stage over the grammar of one file gives of a command line
abbrev pub of_one : {X : Type 0} → List ℕ → Result X GrammarFault → Result X Stop
of_one name (Ok x) = Ok x
of_one name (Err fault) = Err (stopping.Fault name fault)

over_file : {X : Type 0} (name : List ℕ) (Stage : Result X GrammarFault → Type 0) (r : Result X GrammarFault) → Stage r
    → OfFile name Stage (of_one name r)
over_file name Stage (Ok x) h = passes x h
over_file name Stage (Err fault) h = fails fault h

module _ (files : Files) (library : Option (List ℕ)) (name : List ℕ) where
  module _ {X : Type 0} (Stage : Loaded → Result X GrammarFault → Type 0) where
    abbrev Makes : List (List ℕ) → Result X Stop → Type 0
    Makes fetched = Then (Loads files library name fetched) (λ grammar. OfFile name (Stage grammar))

    -- nothing is made of a grammar that is not loaded
    pub not_loaded : (halt : Halt) → IsHaltOf (AfterFetches (Loads files library name)) halt → IsHaltOf (AfterFetches Makes) halt
    not_loaded (halts.Stop stop) h = (h.0, stops stop h.1)
    not_loaded halts.Failed h = tt
    not_loaded halts.NoMemory h = tt

    -- what is made of a grammar
    pub made_of : (grammar : Loaded) (r : Result X GrammarFault) → AfterFetches (Loads files library name) (Ok grammar)
        → Stage grammar r → AfterFetches Makes (of_one name r)
    made_of grammar r h k = (h.0, goes_on grammar (of_one name r) h.1 (over_file name (Stage grammar) r k))

    -- and the fault of one of which nothing is made
    pub fault_of_one : (grammar : Loaded) (fault : GrammarFault) (stop : Stop) → AfterFetches (Loads files library name) (Ok grammar)
        → Stage grammar (Err fault) → stop ≡ stopping.Fault name fault → AfterFetches Makes (Err stop)
    fault_of_one grammar fault stop h k same =
        subst (λ (s : Stop). AfterFetches Makes (Err s)) (sym same) (made_of grammar (Err fault) h k)
