use Rattle.std.proofs.Common.{List, map, take, sym, ap, subst, ◌∙◌}
use Rattle.std.specs.Borrow.{Bor}
use Rattle.std.proofs.lemmas.List.{take_all}
use Rattle.g4_source.specs.declared.atom.Atom.{Atom}
use Rattle.g4_source.specs.declared.rule.ParserRule.{ParserRule}
use Rattle.g4_checks.specs.Known.{Counts}
use Rattle.g4_checks.specs.Labels.{is_in_two}
use Rattle.g4_checks.proofs.Counting.{counts_none}
use Rattle.g4_checks.proofs.Known.{names_more}
use Rattle.g4_checks.proofs.labels.repeated_labels.Goals as goal

pub loop-rule-init : goal.loop-rule-init
loop-rule-init c = counts_none c.new.result c.new-2.result c.new.ensures c.new-2.ensures

pub loop-rule-preserved : goal.loop-rule-preserved
loop-rule-preserved c =
    let rule = λ (r : Bor (ParserRule Atom)). r.now in
    subst (λ (rules : List (ParserRule Atom)). Counts rules c.add_rule.new.self.once c.add_rule.new.self.again)
    (sym (names_more rule c.args.rules.now c.loop-rule.rule-index c.rule-item.result c.loop-rule-test.true c.rule-item.is))
    (c.in_ok-add_rule.ensures (map rule (take c.loop-rule.rule-index c.args.rules.now)) c.loop-rule.invariant)

pub returns : goal.returns
returns c =
    λ n. c.loop-rule.invariant.in_two n ∙ ap (λ (rules : List (Bor (ParserRule Atom))). is_in_two (map (λ r. r.now) rules) n)
    (take_all c.loop-rule.rule-index c.args.rules.now c.loop-rule-test.false)
