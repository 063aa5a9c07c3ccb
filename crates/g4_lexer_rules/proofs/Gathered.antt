-- Lexer rules among rules, an item at a time.
use Rattle.std.proofs.Common.{◌≡◌, List, [], ◌∷◌, ◌++◌, ap, ◌∙◌}
use Rattle.std.proofs.lemmas.List.{append-nil}
use Rattle.std.proofs.lemmas.List.Elements.{filter_map-append}
use Rattle.g4_source.specs.declared.atom.Atom.{Atom}
use Rattle.g4_source.specs.declared.rule.Rule.{Rule}
use Rattle.g4_source.specs.declared.rule.Rule.TheVariants.{Parser, Lexer}
use Rattle.g4_source.specs.declared.rule.LexerRule.{LexerRule}
use Rattle.g4_source.specs.declared.rule.ParserRule.{ParserRule}
use Rattle.g4_source.specs.Rules.{lexer_rule, lexer_rules}

-- a parser rule more
pub parser_more : (xs : List Rule) (rule : Rule) (parser : ParserRule Atom) → rule ≡ Parser parser
    → lexer_rules (xs ++ rule ∷ []) ≡ lexer_rules xs
parser_more xs rule parser is = ap (λ (r : Rule). lexer_rules (xs ++ r ∷ [])) is
    ∙ (filter_map-append lexer_rule xs (Parser parser ∷ []) ∙ append-nil (lexer_rules xs))

-- a lexer rule more
pub lexer_more : (xs : List Rule) (rule : Rule) (lexer : LexerRule) → rule ≡ Lexer lexer
    → lexer_rules (xs ++ rule ∷ []) ≡ lexer_rules xs ++ lexer ∷ []
lexer_more xs rule lexer is = ap (λ (r : Rule). lexer_rules (xs ++ r ∷ [])) is ∙ filter_map-append lexer_rule xs (Lexer lexer ∷ [])
