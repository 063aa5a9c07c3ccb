use Rattle.std.proofs.Common.{◌≡◌, map, take}
use Rattle.g4_source.specs.Views.{rule_view}
use Rattle.g4_recursion.specs.Leads.{operators_of}
use Rattle.g4_recursion.specs.AtomLeads.{leads_by, may_have_operators}
use Rattle.g4_recursion.specs.Numbers.{number_in}
use Rattle.g4_recursion.proofs.leads.lead_rules.Given as goal

abbrev pub invariant-loop-rule : goal.invariant-loop-rule
invariant-loop-rule l =
    (map (λ lead. lead.alternatives) l.all.items
    ≡ map (λ rule. leads_by (number_in l.numbers) (rule_view rule)) (take l.rule-index l.rules)) ×
    (operators_of l.all.items ≡ map (λ rule. may_have_operators (rule_view rule)) (take l.rule-index l.rules))
