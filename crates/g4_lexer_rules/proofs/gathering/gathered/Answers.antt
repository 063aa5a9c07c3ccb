use Rattle.std.proofs.Common.{List, ◌++◌, map, sym, ap, ◌∙◌}
use Rattle.g4_source.specs.declared.rule.LexerRule.{LexerRule}
use Rattle.g4_source.specs.Rules.{lexer_rules}
use Rattle.g4_grammar.specs.declared.token_types.TokenLiteral.{TokenLiteral}
use Rattle.g4_lexer_rules.specs.Rules.{rule_of_literal}
use Rattle.g4_lexer_rules.specs.Types.{type_by_names}
use Rattle.g4_lexer_rules.proofs.Made.{rules_gathered}
use Rattle.g4_lexer_rules.proofs.gathering.gathered.Goals as goal

pub returns : goal.returns
returns c =
    let places = c.in_ok-symbols.symbols in
    rules_gathered c.args.rules c.args.names.now c.args.literals places _ c.in_ok-symbols.ensures
    (c.new.ensures ∙ (c.in_ok-literals.ensures ∙ ap (map rule_of_literal) c.into_vec-2.ensures))
    (c.new-2.ensures ∙ (c.in_ok-rules.ensures ∙ ap lexer_rules c.into_vec.ensures))
    (c.in_ok-types.ensures
    ∙ (ap (λ (ls : List TokenLiteral). map (λ (t : TokenLiteral). t.symbol) ls ++ map (type_by_names places) c.as_slice-2.result.now)
    c.as_slice.ensures
    ∙ ap (λ (rs : List LexerRule). map (λ (t : TokenLiteral). t.symbol) c.args.literals ++ map (type_by_names places) rs)
    (c.as_slice-2.ensures.value ∙ sym c.new-2.ensures)))
