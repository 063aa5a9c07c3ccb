use Rattle.std.proofs.Common.{◌≡◌, map, take}
use Rattle.g4_lexer_rules.specs.NetworkRules.{lowered}
use Rattle.g4_lexer_rules.proofs.lowering.lower.Given as goal

abbrev pub invariant-loop-rule : goal.invariant-loop-rule
invariant-loop-rule l = l.all.items ≡ map (lowered l.rules) (take l.rule-index l.rules)
