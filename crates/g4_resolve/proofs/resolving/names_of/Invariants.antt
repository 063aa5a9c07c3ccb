use Rattle.std.proofs.Common.{◌≡◌, map, take}
use Rattle.g4_resolve.proofs.resolving.names_of.Given as goal

abbrev pub invariant-loop-rule : goal.invariant-loop-rule
invariant-loop-rule l = l.names.items ≡ map (λ rule. rule.name) (map (λ r. r.now) (take l.rule-index l.rules))
