use Rattle.std.proofs.Common.{arith}
use Rattle.g4_productions.proofs.Cut.{read_whole, stops_at_end}
use Rattle.g4_productions.proofs.reader.stop_within.Goals as goal
use Rattle.g4_productions.proofs.reader.stop_within.Goals.{in-Ok, in-Err-At+then-at-tokens, in-Err-At+else-at-tokens, in-Err-BadSet, in-Err-Nesting, in-Err-NoMemory}

pub returns : goal.returns
returns c = elim c.match-read_all.branch [
  | in-Ok w ↦ rw w.result-is (read_whole c.args.text.now c.args.tokens.now _ w.in-Ok.ensures.reads)
  | in-Err-At+then-at-tokens w ↦
      let read = rw w.in-Err-At.field-0-is at w.in-Err-At.ensures.reads in
      rw w.result-is (w.if-at-tokens.true, read.0, read.1)
  | in-Err-At+else-at-tokens w ↦
      let read = rw w.in-Err-At.field-0-is at w.in-Err-At.ensures.reads in
      rw w.result-is (stops_at_end c.args.text.now c.args.tokens.now w.in-Err-At.at (omega (arith, w.if-at-tokens.false)) read.0 read.1)
  | in-Err-BadSet w ↦
      let read = rw w.in-Err-BadSet.field-0-is at w.in-Err-BadSet.ensures.reads in
      rw w.result-is read
  | in-Err-Nesting w ↦
      let read = rw w.in-Err-Nesting.field-0-is at w.in-Err-Nesting.ensures.reads in
      absurd read
  | in-Err-NoMemory w ↦ rw w.result-is tt
]
