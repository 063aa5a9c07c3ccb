use Rattle.std.proofs.Common.{◌≡◌, map, take}
use Rattle.g4_source.specs.Bind.{in_order_over}
use Rattle.g4_recursion.specs.AtomLeads.{lead_by}
use Rattle.g4_recursion.specs.Numbers.{number_in}
use Rattle.g4_recursion.proofs.leads.parser_leads.Given as goal

abbrev pub invariant-loop-alternative : goal.invariant-loop-alternative
invariant-loop-alternative l = l.all.items ≡ map
    (λ alternative. in_order_over (λ a. lead_by (number_in l.stage.numbers.now) l.stage.kind a.kind) alternative.elements)
    (take l.alternative-index l.alternative-items)
