use Rattle.std.proofs.Common.{◌≡◌, take}
use Rattle.g4_leftrec.proofs.copies.rule.Given as goal

abbrev pub invariant-loop-other : goal.invariant-loop-other
invariant-loop-other l = l.copies.items ≡ take l.other-index l.rule.alternatives
