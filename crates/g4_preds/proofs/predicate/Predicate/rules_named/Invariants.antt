use Rattle.std.proofs.Common.{◌≡◌, take}
use Rattle.g4_preds.proofs.NamedRules.{rules_in}
use Rattle.g4_preds.proofs.predicate.Predicate.rules_named.Given as goal

abbrev pub invariant-loop-node : goal.invariant-loop-node
invariant-loop-node l = l.rules.items ≡ rules_in (take l.node-index l.node-items)
