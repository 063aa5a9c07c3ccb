use Rattle.std.proofs.Common.{◌≡◌, ◌++◌, replicate}
use Rattle.g4_merge.proofs.parts.push_number.Given as goal

abbrev pub invariant-loop : goal.invariant-loop
invariant-loop l = l.files.items ≡ l.initial.files.items ++ replicate l.counter l.number
