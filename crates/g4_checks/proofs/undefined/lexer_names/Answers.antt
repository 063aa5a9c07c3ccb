use Rattle.std.proofs.Common.{List, [], map, subst}
use Rattle.std.specs.Borrow.{Bor}
use Rattle.std.proofs.lemmas.List.{take_all}
use Rattle.g4_source.specs.declared.rule.LexerRule.{LexerRule}
use Rattle.g4_checks.specs.Known.{AddsAll}
use Rattle.g4_checks.proofs.Known.{adds_next}
use Rattle.g4_checks.proofs.undefined.lexer_names.Goals as goal

pub loop-rule-preserved : goal.loop-rule-preserved
loop-rule-preserved c =
    adds_next (λ (r : Bor (LexerRule)). r.now.name) [] [] c.args.rules.now c.loop-rule.rule-index c.rule-item.result
    c.as_str.result.now c.loop-rule.names c.add.new.self c.loop-rule-test.true c.rule-item.is c.as_str.ensures
    c.loop-rule.invariant c.in_ok-add.ensures.added

pub returns : goal.returns
returns c =
    subst (λ (xs : List (Bor (LexerRule))). AddsAll [] (map (λ r. r.now.name) xs) c.loop-rule.names)
    (take_all c.loop-rule.rule-index c.args.rules.now c.loop-rule-test.false) c.loop-rule.invariant
