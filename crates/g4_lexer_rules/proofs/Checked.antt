-- The rules of the lexer of a checked grammar can be lexed with.
use Rattle.std.proofs.Common.{◌≤◌, List, [], ◌++◌, refl, sym, subst, All}
use Rattle.g4_tokens.specs.declared.symbol.TheConstants.{MOST_TYPES}
use Rattle.g4_source.specs.declared.rule.LexerRule.{LexerRule}
use Rattle.g4_source.specs.declared.rule.Rule.{Rule}
use Rattle.g4_source.specs.Blocks.{LexerRulesAreFull, RulesAreFull}
use Rattle.g4_source.specs.Rules.{lexer_rules}
use Rattle.g4_grammar.specs.Written.{RulesAreDefined, RulesCanRun}
use Rattle.g4_grammar.specs.declared.token_types.TokenLiteral.{TokenLiteral}
use Rattle.g4_grammar.specs.declared.token_types.TokenName.{TokenName}
use Rattle.g4_lexer_rules.specs.Lexable.{CanBeLexed}
use Rattle.g4_lexer_rules.specs.Lexers.{CanBeMade}
use Rattle.g4_lexer_rules.specs.declared.tables.CommandTables.{CommandTables}
use Rattle.g4_lexer_rules.specs.NetworkRules.{all_rules}
use Rattle.g4_lexer_rules.specs.declared.lexer_rules.LexerRules.{LexerRules}
use Rattle.g4_lexer_rules.specs.Rules.{IsLexerRulesOf}
use Rattle.g4_lexer_rules.proofs.Lexing.{rules_lexed}
use Rattle.g4_lexer_rules.proofs.LiteralRules.{IsLiteralRule}
use Rattle.g4_lexer_rules.proofs.Made.{full, literals_all}
use Rattle.g4_lexer_rules.proofs.Trees.{full_rules}

-- the rules can be lexed with
pub can_be_lexed : (names : List TokenName) (literals : List TokenLiteral) (rules : List Rule) (made : LexerRules)
    → IsLexerRulesOf names literals rules made → RulesAreFull rules → RulesAreDefined rules → RulesCanRun rules
    → CanBeLexed (all_rules made.literals made.rules)
can_be_lexed names literals rules made h have defined can =
    let lits : All IsLiteralRule made.literals = subst (All IsLiteralRule) (sym h.literals_are)
    (literals_all IsLiteralRule (λ token. (token.literal, refl, refl)) literals) in
    let both = full names literals rules made h have in
    let others : LexerRulesAreFull (lexer_rules rules) = subst LexerRulesAreFull h.rules both.1 in
    subst (λ (rs : List LexerRule). CanBeLexed (made.literals ++ rs)) (sym h.rules)
    (rules_lexed made.literals rules lits (full_rules made.literals (lexer_rules rules) both.0 others) defined can)

-- so they can be made a lexer of
pub can_be_made : (names : List TokenName) (literals : List TokenLiteral) (rules : List Rule) (made : LexerRules)
    → IsLexerRulesOf names literals rules made → RulesAreFull rules → RulesAreDefined rules → RulesCanRun rules
    → LexerRulesAreFull made.literals × LexerRulesAreFull made.rules → All (λ type. type ≤ MOST_TYPES) made.types →
    (tables : CommandTables) → All (λ name. name.symbol ≤ MOST_TYPES) tables.types → CanBeMade made tables
can_be_made names literals rules made are have defined can full low tables named = record {
  literals = full.0;
  rules = full.1;
  lexed = can_be_lexed names literals rules made are have defined can;
  types = low;
  named = named;
}
