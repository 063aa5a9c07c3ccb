-- What the atoms of parser rules become, and of which rules.
use Rattle.std.specs.Prelude.{◌≡◌, ℕ, ◌+◌, List, map, Contains}
use Rattle.std.specs.List.{position_or_len}
use Rattle.std.specs.Str.{bytes_eq}
use Rattle.g4_source.specs.Bind.{in_order_over}
use Rattle.g4_source.specs.Blocks.{RulesAreFull}
use Rattle.g4_source.specs.Elements.{atoms_of_either}
use Rattle.g4_source.specs.Rules.{alternatives_of, parser_rules}
use Rattle.g4_source.specs.declared.atom.Atom.{Atom}
use Rattle.g4_source.specs.declared.atom.AtomKind.{AtomKind}
use Rattle.g4_source.specs.declared.atom.AtomKind.TheVariants as kinds
use Rattle.g4_source.specs.declared.name.Name.{Name}
use Rattle.g4_source.specs.declared.rule.LexerRule.{LexerRule}
use Rattle.g4_source.specs.declared.rule.ParserRule.{ParserRule}
use Rattle.g4_source.specs.declared.rule.Rule.{Rule}
use Rattle.g4_source.specs.declared.rule.Rule.TheVariants.{Parser}
use Rattle.g4_source.specs.declared.rule.RuleAlternative.{RuleAlternative}
use Rattle.g4_source.specs.declared.source.Source.{Source}
use Rattle.g4_grammar.specs.declared.step.Step.{Step}
use Rattle.g4_grammar.specs.declared.step.Step.TheVariants as steps
use Rattle.g4_grammar.specs.StepRules.{StepRule}
use Rattle.g4_grammar.specs.Written.{ParserRuleIsUntested, RulesAreDefined, RulesCanRun, predicate_texts}
use Rattle.g4_token_file.specs.declared.entry.TokenEntry.{TokenEntry}
use Rattle.g4_vocab.specs.Numbering.{symbols_of_kind, token_lexers}

-- the place of the first of these names, or texts, that is this one, or how many there are
abbrev pub place_named : List (List ℕ) → List ℕ → ℕ
place_named names name = position_or_len (λ other. bytes_eq other name) names

-- the step that an atom is, given the names of the rules and the texts of their predicates: a token is an edge, and a reference a call of
-- the rule of its name, where rules count from 1. A predicate has the place of the first with its text, where these count from 0.
abbrev pub step_of : List (List ℕ) → List (List ℕ) → List LexerRule → List TokenEntry → AtomKind → Step (List ℕ)
step_of names predicates lexers types (kinds.Rule name) = steps.Call (place_named names name.text + 1) 0
step_of names predicates lexers types (kinds.Token name) = steps.Edge (symbols_of_kind lexers types (kinds.Token name))
step_of names predicates lexers types (kinds.Literal literal) = steps.Edge (symbols_of_kind lexers types (kinds.Literal literal))
step_of names predicates lexers types (kinds.Range first last) = steps.Edge (symbols_of_kind lexers types (kinds.Range first last))
step_of names predicates lexers types (kinds.Set set) = steps.Edge (symbols_of_kind lexers types (kinds.Set set))
step_of names predicates lexers types kinds.Any = steps.Edge (symbols_of_kind lexers types kinds.Any)
step_of names predicates lexers types (kinds.NotTokens tokens) = steps.Edge (symbols_of_kind lexers types (kinds.NotTokens tokens))
step_of names predicates lexers types (kinds.NotCharacters set) = steps.Edge (symbols_of_kind lexers types (kinds.NotCharacters set))
step_of names predicates lexers types kinds.Action = steps.Action
step_of names predicates lexers types (kinds.Predicate name) = steps.Predicate (place_named predicates name.text)

-- an alternative over steps
abbrev pub resolved_alternative : List (List ℕ) → List (List ℕ) → List LexerRule → List TokenEntry → RuleAlternative Atom
    → RuleAlternative (Step (List ℕ))
resolved_alternative names predicates lexers types a = record
    { right = a.right; elements = in_order_over (λ b. step_of names predicates lexers types b.kind) a.elements; label = a.label }

-- a rule over steps
abbrev pub resolved_rule : List (List ℕ) → List (List ℕ) → List LexerRule → List TokenEntry → ParserRule Atom → StepRule
resolved_rule names predicates lexers types rule = record
    { name = rule.name; alternatives = map (resolved_alternative names predicates lexers types) rule.alternatives }

-- the names of the parser rules
abbrev pub parser_names : List Rule → List (List ℕ)
parser_names rules = map (λ rule. rule.name) (parser_rules rules)

-- the parser rules of a grammar over steps, their tokens being symbols by these types
abbrev pub resolved : List TokenEntry → Source → List StepRule
resolved types source = map
    (resolved_rule (parser_names source.rules) (predicate_texts source.rules) (token_lexers source.rules) types)
    (parser_rules source.rules)

-- What is checked of rules before: each of their blocks has an alternative, each reference is to one of them, and they can be run.
pub record CanBeResolved (rules : List Rule) : Type 0 where
  pub full : RulesAreFull rules
  pub defined : RulesAreDefined rules
  pub run : RulesCanRun rules

-- no parser rule among the rules has a predicate
abbrev pub RulesAreUntested : List Rule → Type 0
RulesAreUntested rules = (rule : ParserRule Atom) → Contains rules (Parser rule) → ParserRuleIsUntested rule

-- the name is the text of a predicate of a parser rule among the rules
pub record IsPredicateOf (rules : List Rule) (name : Name) : Type 0 where
  pub rule : ParserRule Atom
  pub atom : Atom
  pub of_rule : Contains rules (Parser rule)
  pub of_atom : Contains (atoms_of_either (alternatives_of rule)) atom
  pub is : atom.kind ≡ kinds.Predicate name
