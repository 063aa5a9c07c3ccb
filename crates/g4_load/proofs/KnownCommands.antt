-- Each command of a checked grammar is known, with what it takes.
use Rattle.std.proofs.Common.{◌≡◌, ℕ, List, [], ◌∷◌, Bool, true, false, cond, Option, Some, None, codes, All}
use Rattle.std.specs.List.{cons_option, filter_map, flat_map}
use Rattle.std.specs.Option.{IfSome}
use Rattle.std.specs.Str.{bytes_eq}
use Rattle.std.proofs.lemmas.List.Elements.{All-nil, All-cons, All-head, All-tail, All-append}
use Rattle.g4_source.proofs.Parts.{All-front, All-rest}
use Rattle.g4_source.specs.Rules.{lexer_rules}
use Rattle.g4_source.specs.declared.atom.TokenReference.{TokenReference}
use Rattle.g4_source.specs.declared.atom.TokenReference.TheVariants as refs
use Rattle.g4_source.specs.declared.rule.Argument.{Argument}
use Rattle.g4_source.specs.declared.rule.Argument.TheVariants.{Name, Number}
use Rattle.g4_source.specs.declared.rule.Command.{Command}
use Rattle.g4_source.specs.declared.rule.LexerAlternative.{LexerAlternative}
use Rattle.g4_source.specs.declared.rule.Rule.{Rule}
use Rattle.g4_source.specs.declared.rule.Rule.TheVariants.{Parser, Lexer}
use Rattle.g4_source.specs.declared.source.Source.{Source}
use Rattle.g4_checks.specs.References.{HasNoClash, commands_in}
use Rattle.g4_checks.specs.Commands.{all_commands}
use Rattle.g4_lexer_rules.specs.Known.{ArgumentIsUnknownType, IsKnown, TakesNoType, is_token_name}
use Rattle.g4_token_file.specs.declared.entry.TokenEntry.{TokenEntry}
use Rattle.g4_vocab.specs.Numbering.{all_commanded, argument_name, commanded_by, commanded_token, types_of}
use Rattle.g4_vocab.specs.Shown.{names_of}
use Rattle.g4_load.proofs.TokenNames.{HasSymbol, commanded_have_symbols, is_name}

-- what follows of each part of one list, of a part of the other, follows of the lists
each_part : {X A B : Type 0} (f : X → List A) (g : X → List B) (P : A → Type 0) (Q : B → Type 0)
    → ((x : X) → All P (f x) → All Q (g x)) → (xs : List X) → All P (flat_map f xs) → All Q (flat_map g xs)
each_part f g P Q one [] h = All-nil Q
each_part f g P Q one (x ∷ xs) h = All-append Q (g x) (flat_map g xs) (one x (All-front P (f x) (flat_map f xs) h))
    (each_part f g P Q one xs (All-rest P (f x) (flat_map f xs) h))

module _ (types : List TokenEntry) where
  -- the command takes no token type that is not there
  abbrev TakesAType : Command → Type 0
  TakesAType command = (n : List ℕ) → TakesNoType (names_of types) command n → ⊥

  -- a name that a command of this name takes
  takes_name : (b : Bool) (argument n : List ℕ) → IfSome (cond b (Some (refs.Token argument)) None) (HasSymbol types) → n ≡ argument
      → b ≡ true → is_token_name (names_of types) n ≡ false → ⊥
  takes_name true argument n has same takes absent = let there : is_token_name (names_of types) argument ≡ true =
      is_name types argument has in cc
  takes_name false argument n has same takes absent = cc

  -- an argument
  takes_argument : (name : List ℕ) (argument : Option Argument)
      → IfSome (cond (bytes_eq name (codes "type")) (argument_name argument) None) (HasSymbol types) → (n : List ℕ)
      → ArgumentIsUnknownType (names_of types) name argument n → ⊥
  takes_argument name None has n absent = absent
  takes_argument name (Some (Number digits)) has n absent = absent
  takes_argument name (Some (Name argument)) has n (same, takes, absent) =
      takes_name (bytes_eq name (codes "type")) argument n has same takes absent

  -- the commands of an alternative, whose tokens have symbols
  take_types : (commands : List Command) → All (HasSymbol types) (filter_map commanded_token commands) → All TakesAType commands
  take_types [] h = All-nil TakesAType
  take_types (command ∷ commands) h =
      All-cons TakesAType command commands (takes_argument command.name.text command.argument (here (commanded_token command) h))
      (take_types commands (others (commanded_token command) h))
    where
      here : (o : Option TokenReference) → All (HasSymbol types) (cons_option o (filter_map commanded_token commands))
          → IfSome o (HasSymbol types)
      here None all = tt
      here (Some token) all = All-head (HasSymbol types) token (filter_map commanded_token commands) all

      others : (o : Option TokenReference) → All (HasSymbol types) (cons_option o (filter_map commanded_token commands))
          → All (HasSymbol types) (filter_map commanded_token commands)
      others None all = all
      others (Some token) all = All-tail (HasSymbol types) token (filter_map commanded_token commands) all

  -- the commands of the alternatives of a rule
  alternatives_take : (alternatives : List LexerAlternative) → All (HasSymbol types) (flat_map commanded_by alternatives)
      → All TakesAType (flat_map (λ alternative. alternative.commands) alternatives)
  alternatives_take = each_part commanded_by (λ (alternative : LexerAlternative). alternative.commands) (HasSymbol types) TakesAType
      (λ alternative h. take_types alternative.commands h)

  -- the commands of rules
  rules_take : (rules : List Rule) → All (HasSymbol types) (all_commanded (lexer_rules rules)) → All TakesAType (all_commands rules)
  rules_take [] h = All-nil TakesAType
  rules_take (Parser rule ∷ rules) h = rules_take rules h
  rules_take (Lexer rule ∷ rules) h =
      let commanded : List TokenReference = flat_map commanded_by rule.alternatives in
      All-append TakesAType (flat_map (λ alternative. alternative.commands) rule.alternatives) (all_commands rules)
      (alternatives_take rule.alternatives (All-front (HasSymbol types) commanded (all_commanded (lexer_rules rules)) h))
      (rules_take rules (All-rest (HasSymbol types) commanded (all_commanded (lexer_rules rules)) h))

-- so where the names of the rules are checked, each command is known, and its token type is that of the grammar
pub all_known : (table : List TokenEntry) (source : Source) → HasNoClash source
    → All (IsKnown source (names_of (types_of table source))) (commands_in source)
all_known table source checked =
    let types : List TokenEntry = types_of table source in
    let typed : All (TakesAType types) (commands_in source) = rules_take types source.rules (commanded_have_symbols table source) in
    λ k d less. record {
      known = checked.0.0.0.0.1 k d less;
      mode = checked.0.0.0.0.0.1 k d less;
      channel = checked.0.0.0.1 k d less;
      type = typed k d less;
    }
