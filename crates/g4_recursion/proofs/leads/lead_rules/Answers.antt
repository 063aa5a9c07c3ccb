use Rattle.std.proofs.Common.{map, sym, ap, ◌∙◌}
use Rattle.std.proofs.lemmas.List.{take_all}
use Rattle.g4_recursion.specs.declared.lead.LeadRule.{LeadRule}
use Rattle.g4_source.specs.declared.rules.RuleView.{RuleView}
use Rattle.g4_source.specs.Views.{rule_view}
use Rattle.g4_source.proofs.Lists.{map-map}
use Rattle.g4_recursion.specs.AtomLeads.{leads_by, may_have_operators}
use Rattle.g4_recursion.specs.Numbers.{number_in}
use Rattle.g4_recursion.proofs.Leading.{all_leads}
use Rattle.g4_recursion.proofs.leads.lead_rules.Goals as goal

pub returns-clause-leads : goal.returns-clause-leads
returns-clause-leads c =
    all_leads c.args.rules.now c.in_ok-numbers.numbers (map (λ (lead : LeadRule). lead.alternatives) c.loop-rule.all.items)
    c.in_ok-numbers.ensures.numbers
    (c.loop-rule.invariant.0 ∙ ap (map (λ (view : RuleView). leads_by (number_in c.in_ok-numbers.numbers) (rule_view view)))
    (take_all c.loop-rule.rule-index c.args.rules.now c.loop-rule-test.false))

pub returns-clause-operators : goal.returns-clause-operators
returns-clause-operators c =
    c.loop-rule.invariant.1 ∙ (ap (map (λ (view : RuleView). may_have_operators (rule_view view)))
    (take_all c.loop-rule.rule-index c.args.rules.now c.loop-rule-test.false)
    ∙ sym (map-map may_have_operators rule_view c.args.rules.now))
