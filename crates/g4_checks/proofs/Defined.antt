-- Where the rules name nothing that is not there, each reference is to one of them.
use Rattle.std.proofs.Common.{◌≡◌, ℕ, List, [], ◌∷◌, map, Bool, true, false, ◌||◌, refl, ap, ◌∙◌}
use Rattle.std.specs.List.{list_any}
use Rattle.std.specs.Str.{bytes_eq}
use Rattle.std.proofs.lemmas.List.Elements.{All-weaker}
use Rattle.g4_source.specs.declared.atom.AtomKind.{AtomKind}
use Rattle.g4_source.specs.declared.atom.AtomKind.TheVariants as kinds
use Rattle.g4_source.specs.declared.rule.Rule.{Rule}
use Rattle.g4_source.specs.declared.rule.Rule.TheVariants as rules
use Rattle.g4_source.specs.declared.source.Source.{Source}
use Rattle.g4_source.specs.Rules.{lexer_rules, parser_rules}
use Rattle.g4_source.specs.Atoms.{AtomIn}
use Rattle.g4_source.specs.declared.kind.RuleKind.{RuleKind}
use Rattle.g4_source.specs.declared.kind.RuleKind.TheVariants.{Parser, Lexer}
use Rattle.g4_grammar.specs.Written.{is_rule_of, KindIsDefined, RulesAreDefined}
use Rattle.g4_grammar.proofs.Positions.{any_found}
use Rattle.g4_checks.specs.References.{HasRules, NamesNoRule, atoms_in}
use Rattle.g4_checks.specs.Names.{is_one_of}
use Rattle.g4_checks.specs.Uses.{KindIsUndefined}
use Rattle.g4_checks.proofs.Sets.{bytes_eq-sym}

-- the names of the parser rules, and of the lexer rules
abbrev names_of_parsers : List Rule → List (List ℕ)
names_of_parsers all = map (λ rule. rule.name) (parser_rules all)

abbrev names_of_lexers : List Rule → List (List ℕ)
names_of_lexers all = map (λ rule. rule.name) (lexer_rules all)

-- a rule of one of these names is a rule
is_parser : (all : List Rule) (name : List ℕ) → is_one_of (names_of_parsers all) name ≡ list_any (is_rule_of Parser name) all
is_parser [] name = refl
is_parser (rules.Parser rule ∷ all) name = ap (λ (b : Bool). b || is_one_of (names_of_parsers all) name) (bytes_eq-sym name rule.name)
    ∙ ap (λ (b : Bool). bytes_eq rule.name name || b) (is_parser all name)
is_parser (rules.Lexer rule ∷ all) name = is_parser all name

is_lexer : (all : List Rule) (name : List ℕ) → is_one_of (names_of_lexers all) name ≡ list_any (is_rule_of Lexer name) all
is_lexer [] name = refl
is_lexer (rules.Lexer rule ∷ all) name = ap (λ (b : Bool). b || is_one_of (names_of_lexers all) name) (bytes_eq-sym name rule.name)
    ∙ ap (λ (b : Bool). bytes_eq rule.name name || b) (is_lexer all name)
is_lexer (rules.Parser rule ∷ all) name = is_lexer all name

-- where it cannot be that a test fails, it holds
holds : (b : Bool) → (b ≡ false → ⊥) → b ≡ true
holds true h = refl
holds false h = absurd (h refl)

module _ (all : List Rule) where
  -- an atom names a rule that is not there
  abbrev Misses : RuleKind → AtomKind → List ℕ → Type 0
  Misses = KindIsUndefined (is_one_of (names_of_parsers all)) (is_one_of (names_of_lexers all))

  -- a reference of an atom that names no such rule is to a rule
  defined : (kind : RuleKind) (a : AtomKind) → ((n : List ℕ) → Misses kind a n → ⊥) → KindIsDefined all kind a
  defined Parser (kinds.Rule name) h = any_found (is_rule_of Parser name.text) all
      (holds (list_any (is_rule_of Parser name.text) all) (λ e. h name.text (refl, is_parser all name.text ∙ e)))
  defined Parser (kinds.Token name) h = tt
  defined Parser (kinds.Literal literal) h = tt
  defined Parser (kinds.Range first last) h = tt
  defined Parser (kinds.Set set) h = tt
  defined Parser kinds.Any h = tt
  defined Parser (kinds.NotTokens tokens) h = tt
  defined Parser (kinds.NotCharacters set) h = tt
  defined Parser kinds.Action h = tt
  defined Parser (kinds.Predicate name) h = tt
  defined Lexer (kinds.Rule name) h = tt
  defined Lexer (kinds.Token name) h = λ other.
      let found = any_found (is_rule_of Lexer name.text) all
      (holds (list_any (is_rule_of Lexer name.text) all) (λ e. h name.text (other, (refl, is_lexer all name.text ∙ e)))) in
      (found.0, (other, found.1))
  defined Lexer (kinds.Literal literal) h = tt
  defined Lexer (kinds.Range first last) h = tt
  defined Lexer (kinds.Set set) h = tt
  defined Lexer kinds.Any h = tt
  defined Lexer (kinds.NotTokens tokens) h = tt
  defined Lexer (kinds.NotCharacters set) h = tt
  defined Lexer kinds.Action h = tt
  defined Lexer (kinds.Predicate name) h = tt

-- the references of a grammar that has the rules that it names
pub rules_defined : (source : Source) → HasRules source → RulesAreDefined source.rules
rules_defined source h =
    All-weaker (λ (a : AtomIn). (n : List ℕ) → NamesNoRule source a n → ⊥) (λ a. KindIsDefined source.rules a.kind a.atom.kind)
    (λ a none. defined source.rules a.kind a.atom.kind none) (atoms_in source) h
