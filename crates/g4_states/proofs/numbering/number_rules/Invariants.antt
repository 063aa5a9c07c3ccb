use Rattle.std.proofs.Common.{◌+◌, drop, length}
use Rattle.g4_states.specs.Numberings.{AreWrittenBefore, CanAllBeNumbered}
use Rattle.g4_states.proofs.numbering.number_rules.Given as goal

abbrev pub invariant-loop-k : goal.invariant-loop-k
invariant-loop-k g l = record {
  fit : CanAllBeNumbered l.states (l.first + l.k) (length l.written.items) (drop l.k l.ends) (drop l.k l.numberings);
  made : AreWrittenBefore l.states l.initial.written.items l.written.items l.first (l.first + l.k) l.ends (drop l.k l.ends)
      l.numberings (drop l.k l.numberings);
}
