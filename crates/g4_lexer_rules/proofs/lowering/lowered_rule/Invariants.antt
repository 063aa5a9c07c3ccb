use Rattle.std.proofs.Common.{◌≡◌, map, take}
use Rattle.g4_source.specs.Bind.{in_order_bind}
use Rattle.g4_lexer_rules.specs.NetworkRules.{names_of}
use Rattle.g4_lexer_rules.specs.Steps.{element_of_kind}
use Rattle.g4_lexer_rules.proofs.lowering.lowered_rule.Given as goal

abbrev pub invariant-loop-alternative : goal.invariant-loop-alternative
invariant-loop-alternative l = l.all.items ≡ map
    (λ x. in_order_bind (λ a. element_of_kind (names_of l.stage.rules.now) a.kind) x.elements)
    (take l.alternative-index l.alternative-items)
