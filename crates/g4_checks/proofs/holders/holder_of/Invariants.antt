use Rattle.g4_checks.proofs.OneHolder.{ArePassed}
use Rattle.g4_checks.proofs.holders.holder_of.Given as goal

abbrev pub invariant-loop-number : goal.invariant-loop-number
invariant-loop-number l = ArePassed l.fault l.source.rules l.number
