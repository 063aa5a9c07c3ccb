-- The rules of a lexer, as its network is made of them.
use Rattle.std.specs.Prelude.{◌≡◌, ℕ, List, [], ◌∷◌, ◌++◌, None, false, map, codes, cond}
use Rattle.std.specs.Option.{unwrap_or}
use Rattle.g4_source.specs.Elements.{atom, empty, then}
use Rattle.g4_source.specs.declared.atom.AtomKind.TheVariants as kinds
use Rattle.g4_source.specs.declared.atom.Literal.{Literal}
use Rattle.g4_source.specs.declared.rule.LexerAlternative.{LexerAlternative}
use Rattle.g4_source.specs.declared.rule.LexerRule.{LexerRule}
use Rattle.g4_source.specs.declared.rule.Rule.{Rule}
use Rattle.g4_source.specs.Rules.{lexer_rules}
use Rattle.g4_grammar.specs.declared.token_types.TokenLiteral.{TokenLiteral}
use Rattle.g4_grammar.specs.declared.token_types.TokenName.{TokenName}
use Rattle.g4_lexer_rules.specs.declared.lexer_rules.LexerRules.{LexerRules}
use Rattle.g4_lexer_rules.specs.Commands.{type_named}

-- an alternative that is a literal
abbrev pub literal_alternative : Literal → LexerAlternative
literal_alternative literal = record { elements = then (atom (record { label = None; kind = kinds.Literal literal })) empty; commands = [] }

-- what makes the tokens of a literal, as a lexer rule. It is no fragment, and has the name `EOF`, with which no reference calls a rule.
abbrev pub rule_of_literal : TokenLiteral → LexerRule
rule_of_literal token =
    record { mode = None; fragment = false; name = codes "EOF"; alternatives = literal_alternative token.literal ∷ [] }

-- the type of a lexer rule: that of its name; a fragment has none, which is 0
abbrev pub type_of_rule : List TokenName → LexerRule → ℕ
type_of_rule names rule = cond rule.fragment 0 (unwrap_or (type_named names rule.name) 0)

-- the types of the rules in order: those of the literals, and then those of the lexer rules
abbrev pub types_of_rules : List TokenName → List TokenLiteral → List Rule → List ℕ
types_of_rules names literals rules = map (λ token. token.symbol) literals ++ map (type_of_rule names) (lexer_rules rules)

-- The rules of the lexer of these rules, where token types have these names and literals of their own: those of the literals in order,
-- the lexer rules in order, and the type of each.
pub record IsLexerRulesOf (names : List TokenName) (literals : List TokenLiteral) (written : List Rule) (made : LexerRules) : Type 0 where
  pub literals_are : made.literals ≡ map rule_of_literal literals
  pub rules : made.rules ≡ lexer_rules written
  pub types : made.types ≡ types_of_rules names literals written
