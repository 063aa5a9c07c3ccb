use Rattle.std.proofs.Common.{ℕ, List, [], ◌∷◌, ◌++◌, map, ap, sym, ◌∙◌}
use Rattle.std.specs.Borrow.{Bor}
use Rattle.std.proofs.lemmas.List.{take_all}
use Rattle.g4_source.specs.declared.atom.Atom.{Atom}
use Rattle.g4_source.specs.declared.rule.ParserRule.{ParserRule}
use Rattle.g4_checks.specs.Labels.{capitalised}
use Rattle.g4_checks.proofs.Known.{names_more}
use Rattle.g4_source.proofs.Lists.{map-map}
use Rattle.g4_checks.proofs.capital.capitalised_names.Goals as goal

pub loop-rule-preserved : goal.loop-rule-preserved
loop-rule-preserved c =
    let name = λ (r : Bor (ParserRule Atom)). capitalised r.now.name in
    c.in_ok-push.ensures.items ∙ (ap (λ (text : List ℕ). c.loop-rule.names.items ++ text ∷ [])
    (c.in_ok-capitalised.ensures ∙ ap capitalised c.as_str.ensures)
    ∙ (ap (λ (texts : List (List ℕ)). texts ++ name c.rule-item.result ∷ []) c.loop-rule.invariant
    ∙ sym (names_more name c.args.rules.now c.loop-rule.rule-index c.rule-item.result c.loop-rule-test.true c.rule-item.is)))

pub returns : goal.returns
returns c =
    c.loop-rule.invariant ∙ (ap (map (λ (r : Bor (ParserRule Atom)). capitalised r.now.name))
    (take_all c.loop-rule.rule-index c.args.rules.now c.loop-rule-test.false)
    ∙ sym (map-map (λ (r : ParserRule Atom). capitalised r.name) (λ (r : Bor (ParserRule Atom)). r.now) c.args.rules.now))
