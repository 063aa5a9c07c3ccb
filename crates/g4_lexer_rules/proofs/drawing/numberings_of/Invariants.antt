use Rattle.std.proofs.Common.{◌≡◌, length, map, take}
use Rattle.g4_lexer_rules.specs.NetworkRules.{numbering_of}
use Rattle.g4_lexer_rules.proofs.drawing.numberings_of.Given as goal

abbrev pub invariant-loop-rule : goal.invariant-loop-rule
invariant-loop-rule l = l.all.items ≡ map (λ rule. numbering_of (length rule.alternatives)) (take l.rule-index l.rules)
