use Rattle.std.proofs.Common.{arith}
use Rattle.g4_horn.proofs.Steps.{first_more}
use Rattle.g4_horn.proofs.chaining.first_waits.Goals as goal

pub loop-clause-preserved : goal.loop-clause-preserved
loop-clause-preserved c =
    let more = first_more c.args.clauses.now c.loop-clause.clause c.loop-clause.waits.items c.push.new.self.items (omega arith)
    c.in_ok-push.ensures.items c.loop-clause.invariant.are_waits c.loop-clause.invariant.each in
    record { are_waits = more.0; each = more.1 }
