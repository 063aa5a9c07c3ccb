use Rattle.g4_vocab.proofs.Repeats.{Passed, names_before}
use Rattle.g4_vocab.proofs.twice.first_repeated.Given as goal

abbrev pub invariant-loop-rule : goal.invariant-loop-rule
invariant-loop-rule l = Passed l.rules l.seen l.rule-index (names_before l.rules l.rule-index)
