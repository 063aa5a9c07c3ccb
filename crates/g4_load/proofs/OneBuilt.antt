-- A grammar file gives at most one grammar, and at most one interpreter and one listing from a start rule.
use Rattle.std.specs.Prelude.{⊤}
use Rattle.std.proofs.Common.{◌≡◌, ℕ, List, [], ◌∷◌, length, Bool, true, false, Option, Some, Result, Ok, Err, ap, sym, ◌∙◌, refl, subst, arith}
use Rattle.g4_tokens.specs.Symbols.{eof}
use Rattle.g4_grammar.specs.StepRules.{StepRule}
use Rattle.g4_grammar.specs.Written.{predicate_texts}
use Rattle.g4_grammar.specs.declared.step.Numbering.{Numbering}
use Rattle.g4_preds.specs.Trees.{Tree}
use Rattle.g4_leftrec.specs.Rewriting.{rewritten, numberings}
use Rattle.g4_net.specs.Network.{ParserNetwork}
use Rattle.g4_net.specs.declared.network.State.TheVariants.{Call}
use Rattle.g4_netlist.specs.Listing.{IsListing}
use Rattle.g4_netlist.proofs.OneListing.{one_listing}
use Rattle.g4_source.specs.declared.source.Source.{Source}
use Rattle.g4_vocab.specs.Answers.{FitsLimits}
use Rattle.g4_vocab.specs.declared.fault.NumberFault.TheVariants as numbering
use Rattle.g4_checks.specs.Checking.{IsChecked}
use Rattle.g4_source.specs.declared.refused.Refused.TheVariants as checking
use Rattle.g4_checks.proofs.OneCheck.{one_answer as one_answer_checked}
use Rattle.g4_checks.proofs.ParserPredicates.{one_predicates}
use Rattle.g4_build.specs.Answers.{GivesNetwork}
use Rattle.g4_build.specs.declared.builder.BuildFault.TheVariants as building
use Rattle.g4_layout.proofs.OneNetwork.{one_network}
use Rattle.g4_lexer_rules.proofs.Laws.{one_lex_net}
use Rattle.g4_lexer_rules.specs.declared.lex_net.LexFault.TheVariants as lexing
use Rattle.g4_lexer_rules.specs.declared.lex_net.LexNet.{LexNet}
use Rattle.g4_lexer_rules.specs.declared.tables.CommandTables.{CommandTables}
use Rattle.g4_lexer_rules.specs.declared.lexer_rules.LexerRules.{LexerRules}
use Rattle.g4_load.specs.Faults.{of_attach, of_number, of_check, of_build, of_lexer}
use Rattle.g4_load.specs.Stages.{AfterFetches, Gives, Then, stops, goes_on, OfFile}
use Rattle.g4_load.specs.declared.interpreter.Interpreter.{Interpreter}
use Rattle.g4_load.specs.declared.fault.GrammarFault.{GrammarFault}
use Rattle.g4_load.specs.declared.stop.Stop.{Stop}
use Rattle.g4_load.specs.Building.{interpreter_of, names_of, Lays, HasLexer, FromGrammar, Builds, GivesRewritten}
use Rattle.g4_lexer_rules.specs.Lexers.{GivesLexer, lexer_with}
use Rattle.g4_load.specs.declared.loading.Loaded.{Loaded}
use Rattle.g4_load.specs.Listing.{IsStartRule, ListsStart, FromRule, Lists}
use Rattle.g4_source.specs.declared.source.GrammarKind.{GrammarKind}
use Rattle.g4_source.specs.declared.source.GrammarKind.TheVariants as kinds
use Rattle.g4_token_file.specs.declared.entry.TokenEntry.{TokenEntry}
use Rattle.g4_attach.specs.Attaching.{IsAttached}
use Rattle.g4_attach.specs.declared.fault.AttachFault.TheVariants as attaching
use Rattle.g4_attach.proofs.OneAttached.{one_attached}
use Rattle.g4_fetch.specs.Files.{Files}
use Rattle.g4_fetch.specs.declared.closure.Fetched.{Fetched}
use Rattle.g4_fetch.specs.declared.closure.WithImports.{WithImports}
use Rattle.g4_fetch.specs.declared.stop.Stop.{Stop as FetchStop}
use Rattle.g4_fetch.proofs.OneVocabulary.{one_all}
use Rattle.g4_imports.specs.declared.composite.Composite.{Composite}
use Rattle.g4_imports.specs.declared.composite.Composites.{Composites}
use Rattle.g4_imports.proofs.OneIntegration.{no_fault, one_composites, one_fault}
use Rattle.g4_load.specs.Stopping.{stop_of_fetch, stop_of_import}
use Rattle.g4_load.specs.Loading as loading
use Rattle.g4_load.proofs.Located.{one_of_whole}
use Rattle.g4_load.specs.Loading.{Checks, Composes, HandsOn, LoadsUnited, Merges, Numbers, Reads, Loads, Unifies}
use Rattle.g4_load.specs.Uniting.{Attaches, Unites, lexer_source, united_of}
use Rattle.g4_load.specs.declared.whole.United.{United}
use Rattle.g4_load.proofs.OneStage.{IsSingle, IsSingleBeside, one_gift, one_then, one_of_file}

-- the rules of a source are few enough, or not, in at most one way
one_numbering : (table : List TokenEntry) (source : Source) → IsSingleBeside numbering.NoMemory (FitsLimits table source)
one_numbering table source (Ok g) (Ok h) p q n m = refl
one_numbering table source (Ok g) (Err numbering.Rules) p q n m = absurd (omega (arith, p.0, q))
one_numbering table source (Ok g) (Err numbering.Types) p q n m = absurd (omega (arith, p.1, q.1))
one_numbering table source (Ok g) (Err numbering.NoMemory) p q n m = absurd (m refl)
one_numbering table source (Err numbering.Rules) (Ok h) p q n m = absurd (omega (arith, p, q.0))
one_numbering table source (Err numbering.Rules) (Err numbering.Rules) p q n m = refl
one_numbering table source (Err numbering.Rules) (Err numbering.Types) p q n m = absurd (omega (arith, p, q.0))
one_numbering table source (Err numbering.Rules) (Err numbering.NoMemory) p q n m = absurd (m refl)
one_numbering table source (Err numbering.Types) (Ok h) p q n m = absurd (omega (arith, p.1, q.1))
one_numbering table source (Err numbering.Types) (Err numbering.Rules) p q n m = absurd (omega (arith, p.0, q))
one_numbering table source (Err numbering.Types) (Err numbering.Types) p q n m = refl
one_numbering table source (Err numbering.Types) (Err numbering.NoMemory) p q n m = absurd (m refl)
one_numbering table source (Err numbering.NoMemory) b p q n m = absurd (n refl)

-- what holds and fails is not both
not_both : (b : Bool) → b ≡ true → b ≡ false → ⊥
not_both b p q = cc

-- rules with their numberings and a start rule have at most one network, or fault
one_build : (rules : List StepRule) (numbers : List Numbering) (start : List ℕ)
    → IsSingleBeside building.NoMemory (GivesNetwork rules numbers start)
one_build rules numbers start (Ok a) (Ok b) p q n m = ap (λ x. Ok x) (one_network (eof ∷ []) rules numbers start a b p q)
one_build rules numbers start (Ok a) (Err building.UnknownStart) p q n m = absurd (not_both _ p.known q)
one_build rules numbers start (Ok a) (Err building.Alternatives) p q n m = absurd (omega (arith, p.narrow q.1.0 q.1.1, q.1.2))
one_build rules numbers start (Ok a) (Err building.States) p q n m = absurd (omega (arith, p.fits, q.2))
one_build rules numbers start (Ok a) (Err building.NoMemory) p q n m = absurd (m refl)
one_build rules numbers start (Err building.UnknownStart) (Ok b) p q n m = absurd (not_both _ q.known p)
one_build rules numbers start (Err building.UnknownStart) (Err building.UnknownStart) p q n m = refl
one_build rules numbers start (Err building.UnknownStart) (Err building.Alternatives) p q n m = absurd (not_both _ q.0 p)
one_build rules numbers start (Err building.UnknownStart) (Err building.States) p q n m = absurd (not_both _ q.0 p)
one_build rules numbers start (Err building.UnknownStart) (Err building.NoMemory) p q n m = absurd (m refl)
one_build rules numbers start (Err building.Alternatives) (Ok b) p q n m = absurd (omega (arith, q.narrow p.1.0 p.1.1, p.1.2))
one_build rules numbers start (Err building.Alternatives) (Err building.UnknownStart) p q n m = absurd (not_both _ p.0 q)
one_build rules numbers start (Err building.Alternatives) (Err building.Alternatives) p q n m = refl
one_build rules numbers start (Err building.Alternatives) (Err building.States) p q n m = absurd (omega (arith, q.1 p.1.0 p.1.1, p.1.2))
one_build rules numbers start (Err building.Alternatives) (Err building.NoMemory) p q n m = absurd (m refl)
one_build rules numbers start (Err building.States) (Ok b) p q n m = absurd (omega (arith, q.fits, p.2))
one_build rules numbers start (Err building.States) (Err building.UnknownStart) p q n m = absurd (not_both _ p.0 q)
one_build rules numbers start (Err building.States) (Err building.Alternatives) p q n m = absurd (omega (arith, p.1 q.1.0 q.1.1, q.1.2))
one_build rules numbers start (Err building.States) (Err building.States) p q n m = refl
one_build rules numbers start (Err building.States) (Err building.NoMemory) p q n m = absurd (m refl)
one_build rules numbers start (Err building.NoMemory) b p q n m = absurd (n refl)

-- rules are laid in at most one way
one_laid : (start : List ℕ) (rules : List StepRule) → IsSingle (Lays start rules)
one_laid start rules = one_gift (GivesRewritten start rules) (of_build start) building.NoMemory refl
    (one_build (rewritten rules) (numberings rules) start)

-- the rules of a lexer give at most one lexer
one_lexer_made : (rules : LexerRules) (tables : CommandTables) → IsSingleBeside lexing.NoMemory (GivesLexer rules tables)
one_lexer_made rules tables (Ok a) (Ok b) p q n m = ap (λ x. Ok x)
    (p.2 ∙ ap (λ (m : LexNet). lexer_with m rules.types tables)
    (one_lex_net rules.literals rules.rules tables.modes p.0 q.0 p.1 q.1) ∙ sym q.2)
one_lexer_made rules tables (Ok a) (Err lexing.States) p q n m = absurd (omega (arith, p.1.fits, q))
one_lexer_made rules tables (Ok a) (Err lexing.NoMemory) p q n m = absurd (m refl)
one_lexer_made rules tables (Err lexing.States) (Ok b) p q n m = absurd (omega (arith, q.1.fits, p))
one_lexer_made rules tables (Err lexing.States) (Err lexing.States) p q n m = refl
one_lexer_made rules tables (Err lexing.States) (Err lexing.NoMemory) p q n m = absurd (m refl)
one_lexer_made rules tables (Err lexing.NoMemory) b p q n m = absurd (n refl)

one_lexer : (rules : LexerRules) (tables : CommandTables) → IsSingle (Gives (GivesLexer rules tables) of_lexer)
one_lexer rules tables = one_gift (GivesLexer rules tables) of_lexer lexing.NoMemory refl (one_lexer_made rules tables)

-- a network goes with at most one lexer
one_with_lexer : (grammar : Loaded) (net : ParserNetwork) → IsSingle (HasLexer grammar net)
one_with_lexer grammar net =
    one_then (Gives (GivesLexer grammar.lexer.0 grammar.lexer.1) of_lexer) (λ lexer result. result ≡ Ok (interpreter_of grammar net lexer))
    (one_lexer grammar.lexer.0 grammar.lexer.1) (λ lexer a b p q. p ∙ sym q)

-- a grammar gives at most one thing to parse with
one_from_grammar : (start : List ℕ) (grammar : Loaded) → IsSingle (FromGrammar start grammar)
one_from_grammar start grammar =
    one_then (Lays start grammar.rules) (HasLexer grammar) (one_laid start grammar.rules) (one_with_lexer grammar)

-- a network has one start rule
one_start : (net : ParserNetwork) (r s : ℕ) → IsStartRule net r → IsStartRule net s → r ≡ s
one_start net r s p q = let same : Some (Call r 0 p.0) ≡ Some (Call s 0 q.0) = sym p.1 ∙ q.1 in cc

-- and one listing of it
one_start_listing : (names shown : List (List ℕ)) (net : ParserNetwork) → IsSingle (ListsStart names shown net)
one_start_listing names shown net (Ok a) (Ok b) p q =
    let also = subst (λ (r : ℕ). IsListing names shown net r b) (one_start net q.0 p.0 q.1 p.1) q.2 in
    ap (λ (x : List ℕ). Ok x) (one_listing names shown net p.0 a b p.2 also)
one_start_listing names shown net (Ok a) (Err g) p q = absurd q
one_start_listing names shown net (Err f) b p q = absurd p

-- a grammar gives at most one listing of a rule
one_from_rule : (rule : List ℕ) (grammar : Loaded) → IsSingle (FromRule rule grammar)
one_from_rule rule grammar = one_then (Lays rule grammar.rules) (ListsStart (names_of grammar.rules) grammar.shown)
    (one_laid rule grammar.rules) (one_start_listing (names_of grammar.rules) grammar.shown)

-- grammars with the same parts are the same
abbrev of_parts : List StepRule → List Tree → List (List ℕ) → LexerRules × CommandTables → Loaded
of_parts rules predicates shown lexer = record { rules = rules; predicates = predicates; shown = shown; lexer = lexer }

same_parts : (a b : Loaded) → a.rules ≡ b.rules → a.predicates ≡ b.predicates → a.shown ≡ b.shown → a.lexer ≡ b.lexer → a ≡ b
same_parts a b rules predicates shown lexer =
    ap (λ (x : List StepRule). of_parts x a.predicates a.shown a.lexer) rules
    ∙ (ap (λ (x : List Tree). of_parts b.rules x a.shown a.lexer) predicates
    ∙ (ap (λ (x : List (List ℕ)). of_parts b.rules b.predicates x a.lexer) shown
    ∙ ap (λ (x : LexerRules × CommandTables). of_parts b.rules b.predicates b.shown x) lexer))

-- a source without fault is handed on in at most one way
one_handed : (table : List TokenEntry) (source : Source) → IsSingle (HandsOn table source)
one_handed table source (Ok a) (Ok b) p q = ap (λ x. Ok x)
    (same_parts a b (p.rules ∙ sym q.rules)
    (one_predicates (predicate_texts source.rules) a.predicates b.predicates p.predicates q.predicates) (p.shown ∙ sym q.shown)
    (p.lexer ∙ sym q.lexer))
one_handed table source (Ok a) (Err g) p q = absurd q
one_handed table source (Err f) b p q = absurd p

-- a source gives at most one grammar, where it is checked
one_checked : (table : List TokenEntry) (source : Source) → IsSingle (Checks table source)
one_checked table source = one_then (Gives (IsChecked source) of_check) (λ _. HandsOn table source)
    (one_gift (IsChecked source) of_check checking.NoMemory refl (one_answer_checked source)) (λ _. one_handed table source)

one_numbers : (table : List TokenEntry) (source : Source) → IsSingle (Numbers table source)
one_numbers table source = one_then (Gives (FitsLimits table source) of_number) (λ _. Checks table source)
    (one_gift (FitsLimits table source) of_number numbering.NoMemory refl (one_numbering table source)) (λ _. one_checked table source)

-- a parser grammar is attached to its lexer grammar in at most one way
one_attaches : (table : List TokenEntry) (parser : Composite) (lexer : Option Composite) → IsSingle (Attaches table parser lexer)
one_attaches table parser lexer = one_then (Gives (IsAttached table parser.merged.source (lexer_source lexer)) of_attach)
    (λ attached result. result ≡ Ok (united_of parser lexer attached))
    (one_gift (IsAttached table parser.merged.source (lexer_source lexer)) of_attach attaching.NoMemory refl
    (one_attached table parser.merged.source (lexer_source lexer))) (λ _ a b p q. p ∙ sym q)

one_unites : (table : List TokenEntry) (composites : Composites) (kind : GrammarKind) → IsSingle (Unites table composites kind)
one_unites table composites kinds.Combined a b p q = p ∙ sym q
one_unites table composites kinds.Lexer a b p q = p ∙ sym q
one_unites table composites kinds.Parser a b p q = one_attaches table composites.grammar composites.lexer a b p q

-- and of imports one thing is reported
one_composes : (grammar : WithImports) (lexer : Option ℕ) → IsSingle (Composes grammar lexer)
one_composes grammar lexer (Ok a) (Ok b) p q = ap (λ x. Ok x) (one_composites grammar.files lexer a b p.1 q.1)
one_composes grammar lexer (Ok a) (Err t) p (fault, is, told) = absurd (no_fault grammar fault p.0 is)
one_composes grammar lexer (Err s) (Ok b) (fault, is, told) q = absurd (no_fault grammar fault q.0 is)
one_composes grammar lexer (Err s) (Err t) (fault, is, told) (other, also, says) =
    ap (λ x. Err x) (told ∙ (ap stop_of_import (one_fault grammar fault other is also) ∙ sym says))

module _ (name : List ℕ) (fetched : Fetched) where
  -- what becomes of composites
  abbrev UnitesHere : Composites → Result United Stop → Type 0
  UnitesHere composites = OfFile name (Unites fetched.table composites composites.grammar.merged.source.kind)

  one_merges : IsSingle (Merges name fetched)
  one_merges = one_then (Composes fetched.grammar fetched.lexer) UnitesHere (one_composes fetched.grammar fetched.lexer)
      (λ composites. one_of_file name (Unites fetched.table composites composites.grammar.merged.source.kind)
      (one_unites fetched.table composites composites.grammar.merged.source.kind))

module _ (files : Files) (library : Option (List ℕ)) (name : List ℕ) where
  -- a grammar is read in at most one way
  one_read : (f g : List (List ℕ)) (a b : Result Fetched Stop) → Reads files library name f a → Reads files library name g b → a ≡ b
  one_read f g a b (loading.stops _ stop h) (loading.stops _ other k) =
      let same : ◌≡◌ {A = Result Fetched FetchStop} (Err stop) (Err other) = one_all files library name f g (Err stop) (Err other) h k in
      let one : stop ≡ other = cc in
      ap (λ (x : FetchStop). Err (stop_of_fetch name x)) one
  one_read f g a b (loading.stops _ stop h) (loading.reads _ grammar k) =
      let same : ◌≡◌ {A = Result Fetched FetchStop} (Err stop) (Ok grammar) = one_all files library name f g (Err stop) (Ok grammar) h k in
      absurd (let no_way : ⊥ = cc in no_way)
  one_read f g a b (loading.reads _ grammar h) (loading.stops _ stop k) =
      let same : ◌≡◌ {A = Result Fetched FetchStop} (Ok grammar) (Err stop) = one_all files library name f g (Ok grammar) (Err stop) h k in
      absurd (let no_way : ⊥ = cc in no_way)
  one_read f g a b (loading.reads _ grammar h) (loading.reads _ other k) =
      let same : ◌≡◌ {A = Result Fetched FetchStop} (Ok grammar) (Ok other) = one_all files library name f g (Ok grammar) (Ok other) h k in
      let one : grammar ≡ other = cc in
      ap (λ (x : Fetched). Ok x) one

  -- whatever names are fetched
  abbrev ReadsAny : Result Fetched Stop → Type 0
  ReadsAny = AfterFetches (Reads files library name)

  one_reads : IsSingle ReadsAny
  one_reads a b p q = one_read p.0 q.0 a b p.1 q.1

  abbrev UnifiesAny : Result United Stop → Type 0
  UnifiesAny = Then ReadsAny (Merges name)

  one_unifies : IsSingle UnifiesAny
  one_unifies = one_then ReadsAny (Merges name) one_reads (one_merges name)

  unifies_any : (fetched : List (List ℕ)) (r : Result United Stop) → Unifies files library name fetched r → UnifiesAny r
  unifies_any fetched r (stops stop h) = stops stop (fetched, h)
  unifies_any fetched r (goes_on grammar s h k) = goes_on grammar s (fetched, h) k

  -- a grammar becomes one in at most one way
  pub one_unified : (f g : List (List ℕ)) (a b : Result United Stop) → Unifies files library name f a → Unifies files library name g b
      → a ≡ b
  one_unified f g a b p q = one_unifies a b (unifies_any f a p) (unifies_any g b q)

  abbrev LoadsAny : Result Loaded Stop → Type 0
  LoadsAny = Then UnifiesAny (LoadsUnited name)

  one_loads : IsSingle LoadsAny
  one_loads = one_then UnifiesAny (LoadsUnited name) one_unifies
      (λ united. one_of_whole name united.whole (Numbers united.table united.whole.source) (one_numbers united.table united.whole.source))

  loads_any : (fetched : List (List ℕ)) (r : Result Loaded Stop) → Loads files library name fetched r → LoadsAny r
  loads_any fetched r (stops stop h) = stops stop (unifies_any fetched (Err stop) h)
  loads_any fetched r (goes_on united s h k) = goes_on united s (unifies_any fetched (Ok united) h) k

  -- a grammar is loaded in at most one way, or stops at most one way
  pub one_loaded : (f g : List (List ℕ)) (a b : Result Loaded Stop) → Loads files library name f a → Loads files library name g b → a ≡ b
  one_loaded f g a b p q = one_loads a b (loads_any f a p) (loads_any g b q)

  -- what is made of a grammar
  module _ {X : Type 0} (Stage : Loaded → Result X GrammarFault → Type 0) (one : (grammar : Loaded) → IsSingle (Stage grammar)) where
    abbrev MakesAny : Result X Stop → Type 0
    MakesAny = Then LoadsAny (λ grammar. OfFile name (Stage grammar))

    abbrev Makes : List (List ℕ) → Result X Stop → Type 0
    Makes fetched = Then (Loads files library name fetched) (λ grammar. OfFile name (Stage grammar))

    makes_any : (fetched : List (List ℕ)) (r : Result X Stop) → Makes fetched r → MakesAny r
    makes_any fetched r (stops fault h) = stops fault (loads_any fetched (Err fault) h)
    makes_any fetched r (goes_on grammar s h k) = goes_on grammar s (loads_any fetched (Ok grammar) h) k

    one_made : (f g : List (List ℕ)) (a b : Result X Stop) → Makes f a → Makes g b → a ≡ b
    one_made f g a b p q = one_then LoadsAny (λ grammar. OfFile name (Stage grammar)) one_loads
        (λ grammar. one_of_file name (Stage grammar) (one grammar)) a b (makes_any f a p) (makes_any g b q)

  -- a grammar and a start rule give at most one interpreter, or stop at most one way
  pub one_built : (start : List ℕ) (f g : List (List ℕ)) (a b : Result Interpreter Stop) → Builds files library name start f a
      → Builds files library name start g b → a ≡ b
  one_built start f g a b p q = one_made (FromGrammar start) (one_from_grammar start) f g a b p q

  -- a grammar and a rule give at most one listing, or stop at most one way
  pub one_listed : (rule : List ℕ) (f g : List (List ℕ)) (a b : Result (List ℕ) Stop) → Lists files library name rule f a
      → Lists files library name rule g b → a ≡ b
  one_listed rule f g a b p q = one_made (FromRule rule) (one_from_rule rule) f g a b p q
