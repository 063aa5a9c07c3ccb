use Rattle.std.proofs.Common.{◌≡◌, drop, length}
use Rattle.g4_states.specs.Numberings.{marked}
use Rattle.g4_states.proofs.numbering.mark.Given as goal

abbrev pub invariant-loop-k : goal.invariant-loop-k
invariant-loop-k l = record {
  size : length l.written.items ≡ length l.initial.written.items;
  made : marked (drop l.k l.places) (drop l.k l.numbers) l.written.items ≡ marked l.places l.numbers l.initial.written.items;
}
