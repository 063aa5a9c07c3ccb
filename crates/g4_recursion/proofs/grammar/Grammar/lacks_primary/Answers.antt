use Rattle.std.proofs.Common.{◌≡◌, Some, ap, ◌∙◌}
use Rattle.std.specs.List.{slice_get}
use Rattle.g4_source.specs.declared.rule.Rule.TheVariants.{Parser, Lexer}
use Rattle.g4_source.specs.declared.rules.RuleView.{RuleView}
use Rattle.g4_source.specs.Views.{rule_view}
use Rattle.g4_recursion.specs.Grammars.{rules_in}
use Rattle.g4_recursion.proofs.Read.{no_primary_sought, primary_found, rule_at}
use Rattle.g4_recursion.proofs.grammar.Grammar.lacks_primary.Goals as goal

pub returns-in-Parser : goal.returns-in-Parser
returns-in-Parser c =
    let g = c.args.self.now in
    let at : slice_get (rules_in g) c.args.rule ≡ Some (Parser c.in-Parser.field-0.now) =
    rule_at g c.args.rule c.index.result.now c.requires.within c.index.ensures
    ∙ ap (λ (v : RuleView). Some (rule_view v)) c.in-Parser.is in
    primary_found g c.requires.leads c.args.rule c.index-in-Parser.result.now c.requires.within c.index-in-Parser.ensures
    c.in-Parser.field-0.now at c.as_slice.result.now c.as_slice.ensures c.all_begin.result c.all_begin.ensures

pub returns-in-Lexer : goal.returns-in-Lexer
returns-in-Lexer c =
    let g = c.args.self.now in
    let at : slice_get (rules_in g) c.args.rule ≡ Some (Lexer c.in-Lexer.field-0.now) =
    rule_at g c.args.rule c.index.result.now c.requires.within c.index.ensures
    ∙ ap (λ (v : RuleView). Some (rule_view v)) c.in-Lexer.is in
    (λ h. absurd (cc), λ h. absurd (no_primary_sought g c.requires.leads c.args.rule c.in-Lexer.field-0.now at h))
