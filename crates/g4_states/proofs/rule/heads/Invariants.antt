use Rattle.g4_states.specs.Rules.{HasHeads}
use Rattle.g4_states.proofs.rule.heads.Given as goal

abbrev pub invariant-loop-rule : goal.invariant-loop-rule
invariant-loop-rule g l = HasHeads l.rule l.states.items
