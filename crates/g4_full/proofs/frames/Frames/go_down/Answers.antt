use Rattle.std.proofs.Common.{rules, ◌≡◌, length, reverse}
use Rattle.g4_full.proofs.Walking.{goes_down, lowered_last, lowered_there, states_older}
use Rattle.g4_full.proofs.Placing.{nothing_below}
use Rattle.g4_full.specs.Remembered.{SetOf}
use Rattle.g4_full.proofs.frames.Frames.go_down.Goals as goal

pub returns-then-not-frame-clause-lowered : goal.returns-then-not-frame-clause-lowered
returns-then-not-frame-clause-lowered g c =
    lowered_there g.B.Home.plan.net.net c.args.self.now c.requires.sound c.args.from c.loop-newest.set c.frame.result.now
    (reverse c.args.returns.now) c.loop-newest.below.now c.frame.ensures c.if-not-frame.true c.loop-newest.invariant.0
    c.loop-newest.invariant.2

pub loop-newest-preserved : goal.loop-newest-preserved
loop-newest-preserved g c =
    let are = c.in-Some.ensures.cases.0 in (
      goes_down g.B.Home.plan.net.net c.args.self.now c.requires.sound c.args.from c.loop-newest.set c.in_ok-set.set
          c.in-Some.newest.now (reverse c.args.returns.now) c.loop-newest.below.now c.in-Some.older.now are c.in_ok-set.ensures
          c.loop-newest.invariant.0,
      (c.requires.sound.returns c.loop-newest.set c.in-Some.newest.now c.in_ok-set.set c.in_ok-set.ensures).1.0,
      (states_older g.B.Home.plan.net.net c.loop-newest.below.now c.in-Some.older.now c.in-Some.newest.now are
          c.loop-newest.invariant.2).0,
    )

pub returns-clause-lowered : goal.returns-clause-lowered
returns-clause-lowered g c =
    let none : length c.loop-newest.below.now ≡ 0 = search rules in
    lowered_last g.B.Home.plan.net.net c.args.self.now c.requires.sound c.args.from c.loop-newest.set (reverse c.args.returns.now)
    c.loop-newest.below.now
    (nothing_below g.B.Home.plan.net.net (SetOf c.args.self.now c.loop-newest.set) c.loop-newest.below.now none)
    c.loop-newest.invariant.0 c.loop-newest.invariant.2
