-- One fault of what a grammar names is reported, and none where there is none.
use Rattle.std.proofs.Common.{◌≡◌, ℕ, List, [], ◌∷◌, ◌++◌, Bool, Option, Some, None, ap, sym, ◌∙◌, refl}
use Rattle.std.proofs.lemmas.List.Elements.{All-nil, All-push}
use Rattle.g4_base.specs.declared.place.Place.{Place}
use Rattle.g4_source.specs.declared.atom.AtomKind.{AtomKind}
use Rattle.g4_source.specs.declared.atom.AtomKind.TheVariants.{Rule as RuleName, Token, Predicate}
use Rattle.g4_source.specs.declared.rule.Argument.{Argument}
use Rattle.g4_source.specs.declared.rule.Argument.TheVariants.{Name, Number}
use Rattle.g4_source.specs.declared.source.Source.{Source}
use Rattle.g4_source.specs.declared.kind.RuleKind.{RuleKind}
use Rattle.g4_source.specs.declared.kind.RuleKind.TheVariants.{Parser, Lexer}
use Rattle.g4_checks.specs.declared.references.ReferenceFault.{ReferenceFault}
use Rattle.g4_checks.specs.declared.references.ReferenceFault.TheVariants.{UndefinedRule, UnknownMode, UnknownCommand, UnknownChannel, LexerPredicate, UnknownPredicate, LabelClash}
use Rattle.g4_source.specs.First.{IsNone, IsFirst}
use Rattle.g4_checks.specs.Names.{is_one_of, channel_names, mode_names}
use Rattle.g4_checks.specs.Uses.{IsLexerPredicate, IsPredicateAt, IsUndefined, IsUnknownAt, IsUnknownPredicate, KindIsLexerPredicate, KindIsUndefined, KindIsUnknownPredicate, UndefinedInLexer, UndefinedInParser}
use Rattle.g4_checks.specs.Commands.{ArgumentIsUnknownChannel, ArgumentIsUnknownMode, IsUnknownChannel, IsUnknownCommand, IsUnknownMode}
use Rattle.g4_checks.specs.Labels.{HasClash, IsClash, are_partly_labelled, labels_of, clashes}
use Rattle.g4_checks.specs.References.{HasChannels, HasCommands, HasModes, HasNoClash, HasNoLexerPredicate, HasPredicates, HasRules, IsFault, LabelsClash, NamesNoRule, TakesNoChannel, TakesNoMode, atoms_in, commands_in, lexer_names, parser_names, parsers_in}
use Rattle.g4_checks.proofs.Missing.{one_missing}
use Rattle.g4_source.proofs.OneFirst.{IsOne, not_both, one_choice, one_first}

-- of each item one thing is reported
module _ (is_parser is_lexer : List ℕ → Bool) where
  one_in_parser : (a : AtomKind) (b c : List ℕ) → UndefinedInParser is_parser a b → UndefinedInParser is_parser a c → b ≡ c
  one_in_parser (RuleName name) b c h k = h.0 ∙ sym k.0
  one_in_parser (Predicate written) b c h k = one_missing is_parser written b c h k
  one_in_parser a b c h k = absurd h

  one_in_lexer : (a : AtomKind) (b c : List ℕ) → UndefinedInLexer is_lexer a b → UndefinedInLexer is_lexer a c → b ≡ c
  one_in_lexer (Token name) b c h k = h.1.0 ∙ sym k.1.0
  one_in_lexer a b c h k = absurd h

  one_in_kind : (kind : RuleKind) (a : AtomKind) (b c : List ℕ) → KindIsUndefined is_parser is_lexer kind a b
      → KindIsUndefined is_parser is_lexer kind a c → b ≡ c
  one_in_kind Parser a b c h k = one_in_parser a b c h k
  one_in_kind Lexer a b c h k = one_in_lexer a b c h k

  one_rule : IsOne (IsUndefined is_parser is_lexer)
  one_rule a b c h k = one_in_kind a.kind a.atom.kind b c h k

one_argument_mode : (is_mode : List ℕ → Bool) (name : List ℕ) (argument : Option Argument) (b c : List ℕ)
    → ArgumentIsUnknownMode is_mode name argument b → ArgumentIsUnknownMode is_mode name argument c → b ≡ c
one_argument_mode is_mode name None b c h k = absurd h
one_argument_mode is_mode name (Some (Name argument)) b c h k = h.0 ∙ sym k.0
one_argument_mode is_mode name (Some (Number argument)) b c h k = absurd h

one_mode : (is_mode : List ℕ → Bool) → IsOne (IsUnknownMode is_mode)
one_mode is_mode command b c h k = one_argument_mode is_mode command.name.text command.argument b c h k

one_command : IsOne IsUnknownCommand
one_command command b c h k = h.0 ∙ sym k.0

one_argument_channel : (is_name : List ℕ → Bool) (name : List ℕ) (argument : Option Argument) (b c : List ℕ)
    → ArgumentIsUnknownChannel is_name name argument b → ArgumentIsUnknownChannel is_name name argument c → b ≡ c
one_argument_channel is_name name None b c h k = absurd h
one_argument_channel is_name name (Some argument) b c h k = h.0 ∙ sym k.0

one_channel : (is_name : List ℕ → Bool) → IsOne (IsUnknownChannel is_name)
one_channel is_name command b c h k = one_argument_channel is_name command.name.text command.argument b c h k

one_place : (a : AtomKind) (b c : Place) → IsPredicateAt a b → IsPredicateAt a c → b ≡ c
one_place (Predicate written) b c h k = h ∙ sym k
one_place a b c h k = absurd h

one_kind_place : (kind : RuleKind) (a : AtomKind) (b c : Place) → KindIsLexerPredicate kind a b → KindIsLexerPredicate kind a c → b ≡ c
one_kind_place Parser a b c h k = absurd h
one_kind_place Lexer a b c h k = one_place a b c h k

one_lexer_predicate : IsOne IsLexerPredicate
one_lexer_predicate a b c h k = one_kind_place a.kind a.atom.kind b c h k

one_unknown_place : (a : AtomKind) (b c : Place) → IsUnknownAt a b → IsUnknownAt a c → b ≡ c
one_unknown_place (Predicate written) b c h k = h.0 ∙ sym k.0
one_unknown_place a b c h k = absurd h

one_kind_unknown_place : (kind : RuleKind) (a : AtomKind) (b c : Place) → KindIsUnknownPredicate kind a b
    → KindIsUnknownPredicate kind a c → b ≡ c
one_kind_unknown_place Parser a b c h k = one_unknown_place a b c h k
one_kind_unknown_place Lexer a b c h k = absurd h

one_unknown_predicate : IsOne IsUnknownPredicate
one_unknown_predicate a b c h k = one_kind_unknown_place a.kind a.atom.kind b c h k

one_label : (does_clash : List ℕ → Bool) → IsOne (IsClash does_clash)
one_label does_clash label b c h k = h.0 ∙ sym k.0

one_clash : (does_clash : List ℕ → Bool) → IsOne (HasClash does_clash)
one_clash does_clash rule b c h k =
    one_choice (are_partly_labelled rule.alternatives) (λ n. n ≡ rule.name) (IsFirst (IsClash does_clash) (labels_of rule))
    (λ x y p q. p ∙ sym q)
    (λ x y p q. one_first (IsClash does_clash) (one_label does_clash) (labels_of rule) x y p q) b c h k

-- a kind of fault
data Kind : Type 0 where
  rules : Kind
  modes : Kind
  commands : Kind
  channels : Kind
  lexer_predicates : Kind
  predicates : Kind
  labels : Kind

-- the kinds in the order in which they are looked for
abbrev kinds : List Kind
kinds = rules ∷ modes ∷ commands ∷ channels ∷ lexer_predicates ∷ predicates ∷ labels ∷ []

-- a fault is the first of a kind
abbrev FirstAs : {A B : Type 0} → (B → ReferenceFault) → (A → B → Type 0) → List A → ReferenceFault → Type 0
FirstAs {A} {B} tell Reports xs fault = (b : B) × (fault ≡ tell b) × IsFirst Reports xs b

abbrev FirstOfKind : Source → Kind → ReferenceFault → Type 0
FirstOfKind source rules fault = FirstAs UndefinedRule (NamesNoRule source) (atoms_in source) fault
FirstOfKind source modes fault = FirstAs UnknownMode (TakesNoMode source) (commands_in source) fault
FirstOfKind source commands fault = FirstAs UnknownCommand IsUnknownCommand (commands_in source) fault
FirstOfKind source channels fault = FirstAs UnknownChannel (TakesNoChannel source) (commands_in source) fault
FirstOfKind source lexer_predicates fault = FirstAs LexerPredicate IsLexerPredicate (atoms_in source) fault
FirstOfKind source predicates fault = FirstAs UnknownPredicate IsUnknownPredicate (atoms_in source) fault
FirstOfKind source labels fault = FirstAs LabelClash (LabelsClash source) (parsers_in source) fault

-- the first of a kind is one fault
one_as : {A B : Type 0} (tell : B → ReferenceFault) (Reports : A → B → Type 0) → IsOne Reports → (xs : List A) (f g : ReferenceFault)
    → FirstAs tell Reports xs f → FirstAs tell Reports xs g → f ≡ g
one_as tell Reports one xs f g h k = h.1 ∙ (ap tell (one_first Reports one xs h.0 k.0 h.2 k.2) ∙ sym k.1)

one_of_kind : (source : Source) → IsOne (FirstOfKind source)
one_of_kind source rules f g h k =
    one_as UndefinedRule (NamesNoRule source) (one_rule (is_one_of (parser_names source)) (is_one_of (lexer_names source)))
    (atoms_in source) f g h k
one_of_kind source modes f g h k = one_as UnknownMode (TakesNoMode source) (one_mode (is_one_of (mode_names source)))
    (commands_in source) f g h k
one_of_kind source commands f g h k = one_as UnknownCommand IsUnknownCommand one_command (commands_in source) f g h k
one_of_kind source channels f g h k = one_as UnknownChannel (TakesNoChannel source) (one_channel (is_one_of (channel_names source)))
    (commands_in source) f g h k
one_of_kind source lexer_predicates f g h k = one_as LexerPredicate IsLexerPredicate one_lexer_predicate (atoms_in source) f g h k
one_of_kind source predicates f g h k = one_as UnknownPredicate IsUnknownPredicate one_unknown_predicate (atoms_in source) f g h k
one_of_kind source labels f g h k = one_as LabelClash (LabelsClash source) (one_clash (clashes (parsers_in source)))
    (parsers_in source) f g h k

-- where there is none of a kind, none is the first
none_as : {A B : Type 0} (tell : B → ReferenceFault) (Reports : A → B → Type 0) (xs : List A) → IsNone Reports xs
    → (f : ReferenceFault) → FirstAs tell Reports xs f → ⊥
none_as tell Reports xs none f h = not_both Reports xs h.0 none h.2

module _ (source : Source) where
  -- one more kind of which there is none
  more : (before : List Kind) (kind : Kind) → IsNone (FirstOfKind source) before
      → ((f : ReferenceFault) → FirstOfKind source kind f → ⊥) → IsNone (FirstOfKind source) (before ++ kind ∷ [])
  more before kind none last = All-push (λ k. (f : ReferenceFault) → FirstOfKind source k f → ⊥) before kind none last

  no_kind : IsNone (FirstOfKind source) []
  no_kind = All-nil (λ k. (f : ReferenceFault) → FirstOfKind source k f → ⊥)

  has_rules : HasRules source → IsNone (FirstOfKind source) (rules ∷ [])
  has_rules h = more [] rules no_kind (none_as UndefinedRule (NamesNoRule source) (atoms_in source) h)

  has_modes : HasModes source → IsNone (FirstOfKind source) (rules ∷ modes ∷ [])
  has_modes h = more (rules ∷ []) modes (has_rules h.0) (none_as UnknownMode (TakesNoMode source) (commands_in source) h.1)

  has_commands : HasCommands source → IsNone (FirstOfKind source) (rules ∷ modes ∷ commands ∷ [])
  has_commands h = more (rules ∷ modes ∷ []) commands (has_modes h.0) (none_as UnknownCommand IsUnknownCommand (commands_in source) h.1)

  has_channels : HasChannels source → IsNone (FirstOfKind source) (rules ∷ modes ∷ commands ∷ channels ∷ [])
  has_channels h = more (rules ∷ modes ∷ commands ∷ []) channels (has_commands h.0)
      (none_as UnknownChannel (TakesNoChannel source) (commands_in source) h.1)

  has_no_lexer_predicate : HasNoLexerPredicate source
      → IsNone (FirstOfKind source) (rules ∷ modes ∷ commands ∷ channels ∷ lexer_predicates ∷ [])
  has_no_lexer_predicate h = more (rules ∷ modes ∷ commands ∷ channels ∷ []) lexer_predicates (has_channels h.0)
      (none_as LexerPredicate IsLexerPredicate (atoms_in source) h.1)

  has_predicates : HasPredicates source → IsNone (FirstOfKind source)
      (rules ∷ modes ∷ commands ∷ channels ∷ lexer_predicates ∷ predicates ∷ [])
  has_predicates h = more (rules ∷ modes ∷ commands ∷ channels ∷ lexer_predicates ∷ []) predicates (has_no_lexer_predicate h.0)
      (none_as UnknownPredicate IsUnknownPredicate (atoms_in source) h.1)

  has_no_clash : HasNoClash source → IsNone (FirstOfKind source) kinds
  has_no_clash h = more (rules ∷ modes ∷ commands ∷ channels ∷ lexer_predicates ∷ predicates ∷ []) labels (has_predicates h.0)
      (none_as LabelClash (LabelsClash source) (parsers_in source) h.1)

  -- the fault that is reported is the first of the first kind
  first_kind : (fault : ReferenceFault) → IsFault source fault → IsFirst (FirstOfKind source) kinds fault
  first_kind (UndefinedRule n) h = record {
    before = [];
    item = rules;
    after = modes ∷ commands ∷ channels ∷ lexer_predicates ∷ predicates ∷ labels ∷ [];
    parts = refl;
    none_before = no_kind;
    reported = (n, refl, h);
  }
  first_kind (UnknownMode n) h = record {
    before = rules ∷ [];
    item = modes;
    after = commands ∷ channels ∷ lexer_predicates ∷ predicates ∷ labels ∷ [];
    parts = refl;
    none_before = has_rules h.0;
    reported = (n, refl, h.1);
  }
  first_kind (UnknownCommand n) h = record {
    before = rules ∷ modes ∷ [];
    item = commands;
    after = channels ∷ lexer_predicates ∷ predicates ∷ labels ∷ [];
    parts = refl;
    none_before = has_modes h.0;
    reported = (n, refl, h.1);
  }
  first_kind (UnknownChannel n) h = record {
    before = rules ∷ modes ∷ commands ∷ [];
    item = channels;
    after = lexer_predicates ∷ predicates ∷ labels ∷ [];
    parts = refl;
    none_before = has_commands h.0;
    reported = (n, refl, h.1);
  }
  first_kind (LexerPredicate place) h = record {
    before = rules ∷ modes ∷ commands ∷ channels ∷ [];
    item = lexer_predicates;
    after = predicates ∷ labels ∷ [];
    parts = refl;
    none_before = has_channels h.0;
    reported = (place, refl, h.1);
  }
  first_kind (UnknownPredicate place) h =
      record {
        before = rules ∷ modes ∷ commands ∷ channels ∷ lexer_predicates ∷ [];
        item = predicates;
        after = labels ∷ [];
        parts = refl;
        none_before = has_no_lexer_predicate h.0;
        reported = (place, refl, h.1);
      }
  first_kind (LabelClash n) h = record {
    before = rules ∷ modes ∷ commands ∷ channels ∷ lexer_predicates ∷ predicates ∷ [];
    item = labels;
    after = [];
    parts = refl;
    none_before = has_predicates h.0;
    reported = (n, refl, h.1);
  }

  -- one fault is reported
  pub one_fault : (f g : ReferenceFault) → IsFault source f → IsFault source g → f ≡ g
  one_fault f g h k = one_first (FirstOfKind source) (one_of_kind source) kinds f g (first_kind f h) (first_kind g k)

  -- and none where there is none
  pub no_fault : (f : ReferenceFault) → HasNoClash source → IsFault source f → ⊥
  no_fault f none h = not_both (FirstOfKind source) kinds f (has_no_clash none) (first_kind f h)
