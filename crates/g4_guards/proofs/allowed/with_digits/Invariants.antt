use Rattle.std.proofs.Common.{take}
use Rattle.g4_guards.proofs.Meeting.{IsDigitsTo}
use Rattle.g4_guards.proofs.allowed.with_digits.Given as goal

abbrev pub invariant-loop-before : goal.invariant-loop-before
invariant-loop-before l = IsDigitsTo l.net (take l.before l.targets) l.condition l.digits l.found.items
