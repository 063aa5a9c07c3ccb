-- Rules with what they do before anything is read.
use Rattle.std.specs.Prelude.{◌≡◌, ◌<◌, ◌^◌, List, length, map}
use Rattle.g4_source.specs.declared.rule.Rule.{Rule}
use Rattle.g4_source.specs.Views.{rule_view}
use Rattle.g4_horn.specs.Follows.{Tells}
use Rattle.g4_recursion.specs.Leads.{IsNullableRule, operators_of, trees_of}
use Rattle.g4_recursion.specs.declared.grammar.Grammar.{Grammar}
use Rattle.g4_recursion.specs.AtomLeads.{leads_in, operators_in}

-- the rules
abbrev pub rules_in : Grammar → List Rule
rules_in grammar = map rule_view grammar.rules.items

-- the leads are those of the rules, and it is known which rules may have operators and which derive the empty word
pub record AreLeads (grammar : Grammar) : Type 0 where
  pub few : length (rules_in grammar) < 2 ^ 32
  pub leads : map (λ lead. lead.alternatives) grammar.leads.items ≡ leads_in (rules_in grammar)
  pub operators : operators_of grammar.leads.items ≡ operators_in (rules_in grammar)
  pub nullable : Tells grammar.nullable.items (IsNullableRule (trees_of grammar.leads.items))
