use Rattle.std.proofs.Common.{◌≡◌, take}
use Rattle.g4_tool.specs.Writing.{Wrote}
use Rattle.g4_tool.proofs.write.write_lines.Given as goal

abbrev pub invariant-loop-line : goal.invariant-loop-line
invariant-loop-line g l = record {
  out_faults : g.O.Sink.faults l.out ≡ g.O.Sink.faults l.initial.out;
  err_faults : g.E.Sink.faults l.err ≡ g.E.Sink.faults l.initial.err;
  so_far : Wrote (take l.line-index l.lines) (g.O.Sink.taken l.initial.out) (g.O.Sink.taken l.out) (g.E.Sink.taken l.initial.err)
      (g.E.Sink.taken l.err);
}
