use Rattle.std.proofs.Common.{◌≡◌, ◌≤◌, List, All, sym, ap, subst, ◌∙◌}
use Rattle.g4_tokens.specs.declared.symbol.TheConstants.{MOST_TYPES}
use Rattle.g4_grammar.specs.declared.token_types.TokenName.{TokenName}
use Rattle.g4_lexer_rules.specs.Rules.{IsLexerRulesOf}
use Rattle.g4_lexer_rules.specs.declared.lexer_rules.LexerRules.{LexerRules}
use Rattle.g4_lexer_rules.specs.declared.tables.CommandTables.{CommandTables}
use Rattle.g4_lexer_rules.proofs.Checked.{can_be_made}
use Rattle.g4_lexer_rules.proofs.gathering.checked_lexer_of.Goals as goal

pub new-requires : goal.new-requires
new-requires c =
    let named = subst (λ (t : CommandTables). All (λ name. name.symbol ≤ MOST_TYPES) t.types) (sym c.in_ok-tables.ensures)
    c.requires.low_names in
    can_be_made _ c.args.literals c.args.source.rules c.in_ok-rules.rules c.in_ok-rules.ensures.rules c.requires.full c.requires.defined
    c.requires.run (c.in_ok-rules.ensures.full c.requires.full)
    (c.in_ok-rules.ensures.low
    (subst (λ (names : List TokenName). All (λ name. name.symbol ≤ MOST_TYPES) names) (sym c.as_slice.ensures) named)
    c.requires.low_literals) c.in_ok-tables.tables named

pub returns-clause-rules : goal.returns-clause-rules
returns-clause-rules c =
    let same : c.as_slice.result.now ≡ c.args.names = c.as_slice.ensures ∙ ap (λ (t : CommandTables). t.types) c.in_ok-tables.ensures in
    subst (λ (made : LexerRules). IsLexerRulesOf c.args.names c.args.literals c.args.source.rules made)
    (sym (ap (λ (lexer : LexerRules × CommandTables). lexer.0) c.new.ensures))
    (subst (λ (names : List TokenName). IsLexerRulesOf names c.args.literals c.args.source.rules c.in_ok-rules.rules) same
    c.in_ok-rules.ensures.rules)
