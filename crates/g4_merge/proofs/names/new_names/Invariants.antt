use Rattle.g4_merge.proofs.Known.{IsKnown}
use Rattle.g4_merge.proofs.names.new_names.Given as goal

abbrev pub invariant-loop-rule : goal.invariant-loop-rule
invariant-loop-rule l = IsKnown l.rules l.rule-index l.places l.new.items
