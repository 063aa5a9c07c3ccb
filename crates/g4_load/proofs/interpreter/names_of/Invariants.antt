use Rattle.std.proofs.Common.{◌≡◌, map, take}
use Rattle.g4_load.proofs.interpreter.names_of.Given as goal

abbrev pub invariant-loop-rule : goal.invariant-loop-rule
invariant-loop-rule l = l.names.items ≡ map (λ rule. rule.name) (take l.rule-index l.rules)
