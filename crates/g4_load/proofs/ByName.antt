-- The rules of an interpreter derive the token lists that its grammar derives as the text has it.
use Rattle.std.proofs.Common.{◌≡◌, ◌↔◌, ℕ, ◌+◌, List, [], ◌∷◌, map, not, cond, Option, Result, Ok, refl, sym, ap, ◌∙◌, subst}
use Rattle.std.specs.List.{position_or_len}
use Rattle.std.specs.Str.{bytes_eq}
use Rattle.g4_tokens.specs.Symbols.{eof}
use Rattle.g4_source.specs.Elements.{Alternatives}
use Rattle.g4_source.specs.Rules.{alternatives_of, parser_rules}
use Rattle.g4_source.specs.declared.atom.Atom.{Atom}
use Rattle.g4_source.specs.declared.rule.ParserRule.{ParserRule}
use Rattle.g4_source.specs.declared.source.Source.{Source}
use Rattle.g4_grammar.specs.StepRules.{AreUnpredicated, StepRule}
use Rattle.g4_grammar.specs.Steps.{added_rule}
use Rattle.g4_grammar.specs.Written.{predicate_texts}
use Rattle.g4_grammar.specs.declared.step.Step.{Step}
use Rattle.g4_token_file.specs.declared.entry.TokenEntry.{TokenEntry}
use Rattle.g4_vocab.specs.Numbering.{token_lexers, types_of}
use Rattle.g4_resolve.specs.Derivations.{DerivesByName, DerivesByNumber}
use Rattle.g4_resolve.specs.Resolving.{RulesAreUntested, parser_names, place_named, resolved, resolved_rule}
use Rattle.g4_layout.specs.Rules.{rule_number, rules_of}
use Rattle.g4_derivation.specs.Spelling.{DerivesFrom}
use Rattle.g4_lexer.specs.declared.lexer.Lexer.{Lexer}
use Rattle.g4_lexer_rules.specs.Lexers.{GivesLexer}
use Rattle.g4_net.specs.Network.{ParserNetwork}
use Rattle.g4_fetch.specs.Files.{Files}
use Rattle.g4_load.specs.Building.{Builds, FromGrammar, HasLexer, Lays, interpreter_of}
use Rattle.g4_load.specs.Derivations.{DerivesList}
use Rattle.g4_load.specs.Faults.{of_lexer}
use Rattle.g4_load.specs.Loading.{Loads, Unifies}
use Rattle.g4_load.specs.Stages.{Gives, OfFile}
use Rattle.g4_load.specs.declared.fault.GrammarFault.{GrammarFault}
use Rattle.g4_load.specs.declared.interpreter.Interpreter.{Interpreter}
use Rattle.g4_load.specs.declared.loading.Loaded.{Loaded}
use Rattle.g4_load.specs.declared.stop.Stop.{Stop}
use Rattle.g4_load.specs.declared.whole.United.{United}
use Rattle.g4_load.proofs.AddedRule.{IsEnded, added_derives, added_word}
use Rattle.g4_load.proofs.CarriedOut.{IsOf, loaded_from}
use Rattle.g4_load.proofs.OneBuilt.{one_unified}
use Rattle.g4_load.proofs.Stages.{both_give, file_gives}

-- a rule over steps derives what the parser rule does by name
abbrev pub NumbersKeepNames : Type 0
NumbersKeepNames = (types : List TokenEntry) (source : Source) (added : Alternatives (Step (List ℕ))) (name word : List ℕ)
    → DerivesByNumber (added ∷ map alternatives_of (resolved types source)) (place_named (parser_names source.rules) name + 1) word
    ↔ DerivesByName types source.rules name word

-- where no parser rule has a predicate, no rule over steps has one
abbrev pub UntestedAreUnpredicated : Type 0
UntestedAreUnpredicated = (types : List TokenEntry) (source : Source) → RulesAreUntested source.rules
    → AreUnpredicated (resolved types source)

-- a name is at the same place among rules that have kept their names
same_place : (f : ParserRule Atom → StepRule) → ((r : ParserRule Atom) → (f r).name ≡ r.name) → (name : List ℕ)
    → (rules : List (ParserRule Atom)) →
    position_or_len (λ rule. bytes_eq rule.name name) (map f rules) ≡ place_named (map (λ rule. rule.name) rules) name
same_place f kept name [] = refl
same_place f kept name (rule ∷ rules) =
    ap (λ (n : ℕ). cond (not (bytes_eq (f rule).name name)) (1 + n) 0) (same_place f kept name rules)
    ∙ ap (λ (x : List ℕ). cond (not (bytes_eq x name)) (1 + place_named (map (λ r. r.name) rules) name) 0) (kept rule)

module _ (keep : NumbersKeepNames) (united : United) where
  -- the types and the rules of the grammar
  abbrev source : Source
  source = united.whole.source

  abbrev types : List TokenEntry
  types = types_of united.table source

  abbrev steps : List StepRule
  steps = resolved types source

  number_is : (start : List ℕ) → rule_number steps start ≡ place_named (parser_names source.rules) start + 1
  number_is start = ap (λ (n : ℕ). n + 1)
      (same_place (resolved_rule (parser_names source.rules) (predicate_texts source.rules) (token_lexers source.rules) types)
      (λ r. refl) start (parser_rules source.rules))

  -- the added rule, and all rules of the network
  abbrev first : List ℕ → Alternatives (Step (List ℕ))
  first start = added_rule (eof ∷ []) (rule_number steps start)

  abbrev all : List ℕ → List (Alternatives (Step (List ℕ)))
  all start = rules_of (eof ∷ []) steps start

  -- what its rules derive from a start rule
  by_name : (start list : List ℕ) → DerivesFrom (eof ∷ []) steps start list ↔ DerivesList united start list
  by_name start list = (
    λ d. let h = added_word eof (all start) (rule_number steps start) list d in record {
      word = h.word;
      ends = h.ends;
      parts = h.parts;
      derives = (keep types source (first start) start h.word).0
          (subst (λ (n : ℕ). DerivesByNumber (all start) n h.word) (number_is start) h.derives);
    },
    λ h. added_derives eof (all start) (rule_number steps start) list (record {
      word = h.word;
      ends = h.ends;
      parts = h.parts;
      derives = subst (λ (n : ℕ). DerivesByNumber (all start) n h.word) (sym (number_is start))
          ((keep types source (first start) start h.word).1 h.derives);
    }),
  )

-- an interpreter has the rules of its grammar
interpreter_rules : (start : List ℕ) (loaded : Loaded) (made : Interpreter) → FromGrammar start loaded (Ok made)
    → made.rules ≡ loaded.rules
interpreter_rules start loaded made h = by_stages (both_give (Lays start loaded.rules) (HasLexer loaded) made h)
  where
    by_lexer : (net : ParserNetwork) → (lexer : Lexer) × Gives (GivesLexer loaded.lexer.0 loaded.lexer.1) of_lexer (Ok lexer)
        × ◌≡◌ {A = Result Interpreter GrammarFault} (Ok made) (Ok (interpreter_of loaded net lexer)) → made.rules ≡ loaded.rules
    by_lexer net (lexer, gives, ok) =
        let is : made ≡ interpreter_of loaded net lexer = cc in
        ap (λ (i : Interpreter). i.rules) is

    by_stages : (net : ParserNetwork) × Lays start loaded.rules (Ok net) × HasLexer loaded net (Ok made) → made.rules ≡ loaded.rules
    by_stages (net, lays, has) = by_lexer net (both_give (Gives (GivesLexer loaded.lexer.0 loaded.lexer.1) of_lexer)
        (λ lexer result. result ≡ Ok (interpreter_of loaded net lexer)) made has)

module _ (files : Files) (library : Option (List ℕ)) (name : List ℕ) where
  -- the rules of a grammar that is loaded
  of_grammar : (f g : List (List ℕ)) (united : United) (loaded : Loaded) → Unifies files library name f (Ok united)
      → Loads files library name g (Ok loaded) → loaded.rules ≡ resolved (types_of united.table united.whole.source) united.whole.source
  of_grammar f g united loaded unifies loads = by_source (loaded_from files library name g loaded loads)
    where
      by_source : (other : United) × Unifies files library name g (Ok other) × IsOf other.table other.whole.source loaded
          → loaded.rules ≡ resolved (types_of united.table united.whole.source) united.whole.source
      by_source (other, also, is) =
          let one : ◌≡◌ {A = Result United Stop} (Ok united) (Ok other) =
          one_unified files library name f g (Ok united) (Ok other) unifies also in
          let same : other ≡ united = cc in
          is.made.rules ∙ ap (λ (u : United). resolved (types_of u.table u.whole.source) u.whole.source) same

  -- and of an interpreter
  of_interpreter : (start : List ℕ) (f g : List (List ℕ)) (united : United) (made : Interpreter)
      → Unifies files library name f (Ok united) → Builds files library name start g (Ok made)
      → made.rules ≡ resolved (types_of united.table united.whole.source) united.whole.source
  of_interpreter start f g united made unifies builds =
      by_grammar (both_give (Loads files library name g) (λ grammar. OfFile name (FromGrammar start grammar)) made builds)
    where
      by_grammar : (loaded : Loaded) × Loads files library name g (Ok loaded) × OfFile name (FromGrammar start loaded) (Ok made)
          → made.rules ≡ resolved (types_of united.table united.whole.source) united.whole.source
      by_grammar (loaded, loads, from) =
          interpreter_rules start loaded made (file_gives name (FromGrammar start loaded) made from)
          ∙ of_grammar f g united loaded unifies loads

  -- they derive what the text has
  pub interpreted : NumbersKeepNames → (start : List ℕ) (f g : List (List ℕ)) (united : United) (made : Interpreter)
      → Unifies files library name f (Ok united) → Builds files library name start g (Ok made) → (rule list : List ℕ)
      → DerivesFrom (eof ∷ []) made.rules rule list ↔ DerivesList united rule list
  interpreted keep start f g united made unifies builds rule list =
      subst (λ (rules : List StepRule). DerivesFrom (eof ∷ []) rules rule list ↔ DerivesList united rule list)
      (sym (of_interpreter start f g united made unifies builds)) (by_name keep united rule list)

  -- and have no predicate where the text has none
  pub unpredicated : UntestedAreUnpredicated → (start : List ℕ) (f g : List (List ℕ)) (united : United) (made : Interpreter)
      → Unifies files library name f (Ok united) → Builds files library name start g (Ok made)
      → RulesAreUntested united.whole.source.rules → AreUnpredicated made.rules
  unpredicated plain start f g united made unifies builds untested =
      subst AreUnpredicated (sym (of_interpreter start f g united made unifies builds))
      (plain (types_of united.table united.whole.source) united.whole.source untested)
