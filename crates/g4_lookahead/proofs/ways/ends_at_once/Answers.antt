use Rattle.std.proofs.Common.{refl, sym}
use Rattle.g4_lookahead.proofs.Exactly.{ends_here, ends_on, stuck, next_within, ended_within, none_left}
use Rattle.g4_lookahead.proofs.ways.ends_at_once.Goals as goal

pub returns-in-Ended-clause-ends : goal.returns-in-Ended-clause-ends
returns-in-Ended-clause-ends c = λ yes. c.loop.invariant.ends (ends_here c.args.net.now c.loop.at (sym c.in-Ended.ensures))

pub returns-in-Ended-clause-exact : goal.returns-in-Ended-clause-exact
returns-in-Ended-clause-exact c = (
  λ yes. ended_within c.args.net.now c.loop.counter c.loop.at c.args.state c.loop-test.true
      (sym c.in-Ended.ensures) c.loop.invariant.exact,
  λ within. refl,
)

pub returns-in-Stuck-clause-exact : goal.returns-in-Stuck-clause-exact
returns-in-Stuck-clause-exact c = (
  λ yes. absurd (let no : ⊥ = cc in no),
  λ within. absurd (stuck c.args.net.now _ c.loop.at (sym c.in-Stuck.ensures) (c.loop.invariant.exact.1 within)),
)

pub loop-preserved : goal.loop-preserved
loop-preserved c = record {
  ends = λ ends. c.loop.invariant.ends (ends_on c.args.net.now c.loop.at c.in-To.next (sym c.in-To.ensures) ends);
  exact = next_within c.args.net.now c.loop.counter c.loop.at c.in-To.next c.args.state c.loop-test.true (sym c.in-To.ensures)
      c.loop.invariant.exact;
}

pub returns-clause-exact : goal.returns-clause-exact
returns-clause-exact c = (
  λ yes. absurd (let no : ⊥ = cc in no),
  λ within. absurd (none_left c.args.net.now c.loop.counter c.loop.at c.loop-test.false (c.loop.invariant.exact.1 within)),
)
