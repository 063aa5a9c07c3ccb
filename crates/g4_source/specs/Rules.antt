-- The names of rules, and their alternatives as trees.
use Rattle.std.specs.Prelude.{ℕ, List, map, Option, Some, None}
use Rattle.std.specs.List.{filter_map}
use Rattle.g4_source.specs.Elements.{Elements, Alternatives, either}
use Rattle.g4_source.specs.declared.atom.Atom.{Atom}
use Rattle.g4_source.specs.declared.rule.Rule.{Rule}
use Rattle.g4_source.specs.declared.rule.Rule.TheVariants.{Parser, Lexer}
use Rattle.g4_source.specs.declared.rule.ParserRule.{ParserRule}
use Rattle.g4_source.specs.declared.rule.LexerRule.{LexerRule}

-- the name of a rule
abbrev pub rule_name : Rule → List ℕ
rule_name (Parser rule) = rule.name
rule_name (Lexer rule) = rule.name

-- a rule, where it is a parser rule
abbrev pub parser_rule : Rule → Option (ParserRule Atom)
parser_rule (Parser rule) = Some rule
parser_rule (Lexer rule) = None

-- a rule, where it is a lexer rule
abbrev pub lexer_rule : Rule → Option LexerRule
lexer_rule (Parser rule) = None
lexer_rule (Lexer rule) = Some rule

-- the parser rules in order of the text
abbrev pub parser_rules : List Rule → List (ParserRule Atom)
parser_rules rules = filter_map parser_rule rules

-- the lexer rules in order of the text
abbrev pub lexer_rules : List Rule → List LexerRule
lexer_rules rules = filter_map lexer_rule rules

-- the alternatives of a parser rule, in order
abbrev pub bodies_of : {A : Type 0} → ParserRule A → List (Elements A)
bodies_of rule = map (λ a. a.elements) rule.alternatives

-- the alternatives of a lexer rule, in order
abbrev pub lexer_bodies_of : LexerRule → List (Elements Atom)
lexer_bodies_of rule = map (λ a. a.elements) rule.alternatives

-- the same as trees
abbrev pub alternatives_of : {A : Type 0} → ParserRule A → Alternatives A
alternatives_of rule = either (bodies_of rule)

abbrev pub lexer_alternatives_of : LexerRule → Alternatives Atom
lexer_alternatives_of rule = either (lexer_bodies_of rule)
