-- The parser rules and the lexer rules among some rules.
use Rattle.std.specs.Prelude.{◌≡◌, List}
use Rattle.g4_source.specs.declared.atom.Atom.{Atom}
use Rattle.g4_source.specs.declared.rule.Rule.{Rule}
use Rattle.g4_source.specs.declared.rule.ParserRule.{ParserRule}
use Rattle.g4_source.specs.declared.rule.LexerRule.{LexerRule}
use Rattle.g4_source.specs.Rules.{parser_rules}
use Rattle.g4_vocab.specs.Numbering.{token_lexers}

-- these are the parser rules, and the lexer rules without `fragment`, each in order
pub record AreHalves (rules : List Rule) (parsers : List (ParserRule Atom)) (lexers : List LexerRule) : Type 0 where
  pub parsers_are : parsers ≡ parser_rules rules
  pub lexers_are : lexers ≡ token_lexers rules
