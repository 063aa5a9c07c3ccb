use Rattle.std.proofs.Common.{◌∙◌, ◌+◌, ◌≤◌, arith, reverse, sym}
use Rattle.std.proofs.lemmas.Bool.Decides.{nat_tests}
use Rattle.g4_frames.specs.Framed.{Kept}
use Rattle.g4_guards.specs.Levels.{AllowedAt}
use Rattle.g4_lookahead.proofs.Proper.{turned_within}
use Rattle.g4_full.specs.Remembered.{SetOf}
use Rattle.g4_full.proofs.FullLooking.{placed_ahead, placed_next, placed_start, within_word}
use Rattle.g4_full.proofs.Showing.{shows_ends, shows_goes}
use Rattle.g4_full.proofs.Walking.{kept_down, next_is, set_shows, start_is}
use Rattle.g4_full.proofs.frames.Frames.look.Goals as goal

pub go_down-requires-clause-number : goal.go_down-requires-clause-number
go_down-requires-clause-number g c = (c.requires.sound.starts c.args.decision c.args.condition c.in_ok-start.start c.in_ok-start.ensures).0

pub go_down-requires-clause-states : goal.go_down-requires-clause-states
go_down-requires-clause-states g c = turned_within g.B.Home.plan.net.net c.args.decision c.args.returns.now
    c.requires.ready.3.well_formed c.requires.proper

pub loop-k-init : goal.loop-k-init
loop-k-init g c =
    let net = g.B.Home.plan.net.net in
    let m = c.args.self.now in (
      placed_start net c.args.decision (AllowedAt net c.args.decision c.args.condition) (reverse c.args.returns.now)
          c.in_ok-spot.spot.below.now c.args.tokens.now (SetOf m c.in_ok-start.start) (Kept net (SetOf m c.in_ok-spot.spot.set))
          c.requires.ready c.requires.proper c.requires.ends
          (start_is net m c.requires.sound c.args.decision c.args.condition c.in_ok-start.start c.in_ok-start.ensures)
          (kept_down net (SetOf m c.in_ok-start.start) (SetOf m c.in_ok-spot.spot.set) (reverse c.args.returns.now)
          c.in_ok-spot.spot.below.now c.in_ok-spot.ensures.lowered),
      c.in_ok-spot.ensures.number,
    )

pub go_down-requires-in-loop-k-clause-number : goal.go_down-requires-in-loop-k-clause-number
go_down-requires-in-loop-k-clause-number g c = (c.requires.sound.symbols c.loop-k.spot.set _ c.in_ok-next.next c.in_ok-next.ensures).1.0

pub go_down-requires-in-loop-k-clause-states : goal.go_down-requires-in-loop-k-clause-states
go_down-requires-in-loop-k-clause-states g c = c.loop-k.invariant.0.place.states

pub loop-k-preserved : goal.loop-k-preserved
loop-k-preserved g c =
    let net = g.B.Home.plan.net.net in
    let m = c.args.self.now in (
      placed_next net c.args.decision (AllowedAt net c.args.decision c.args.condition) (reverse c.args.returns.now)
          c.args.tokens.now c.loop-k.k _ c.loop-k-test.true (Kept net (SetOf m c.loop-k.spot.set)) (SetOf m c.in_ok-next.next)
          (Kept net (SetOf m c.in_ok-spot-2.spot.set)) c.loop-k.spot.below.now c.in_ok-spot-2.spot.below.now c.loop-k.invariant.0
          (next_is net m c.requires.sound c.loop-k.spot.set _ c.in_ok-next.next c.in_ok-next.ensures)
          (kept_down net (SetOf m c.in_ok-next.next) (SetOf m c.in_ok-spot-2.spot.set) (reverse c.loop-k.spot.below.now)
          c.in_ok-spot-2.spot.below.now c.in_ok-spot-2.ensures.lowered)
          (shows_goes (Kept net (SetOf m c.in_ok-spot-2.spot.set)) c.loop-k.k _ c.frame.result.now.shown
          (sym c.come_to.ensures ∙ c.in_default.is)
          (set_shows net m c.requires.sound c.in_ok-spot-2.spot.set c.frame.result.now c.frame.ensures)),
      c.in_ok-spot-2.ensures.number,
    )

pub returns-in-Some-clause-ahead : goal.returns-in-Some-clause-ahead
returns-in-Some-clause-ahead g c =
    let net = g.B.Home.plan.net.net in
    let m = c.args.self.now in
    placed_ahead net c.args.decision (AllowedAt net c.args.decision c.args.condition) (reverse c.args.returns.now)
    c.args.tokens.now c.loop-k.k _ c.loop-k-test.true (Kept net (SetOf m c.loop-k.spot.set)) (SetOf m c.in_ok-next.next)
    (Kept net (SetOf m c.in_ok-spot-2.spot.set)) c.loop-k.spot.below.now c.in_ok-spot-2.spot.below.now c.loop-k.invariant.0
    (next_is net m c.requires.sound c.loop-k.spot.set _ c.in_ok-next.next c.in_ok-next.ensures)
    (kept_down net (SetOf m c.in_ok-next.next) (SetOf m c.in_ok-spot-2.spot.set) (reverse c.loop-k.spot.below.now)
    c.in_ok-spot-2.spot.below.now c.in_ok-spot-2.ensures.lowered) c.args.most _ c.in-Some.ahead
    (λ is. within_word c.args.tokens.now c.loop-k.k c.args.most c.loop-k-test.true
    (let few : c.args.most ≤ c.loop-k.k + 1 = grind (arith, nat_tests) in few))
    (shows_ends (Kept net (SetOf m c.in_ok-spot-2.spot.set)) c.loop-k.k _ c.frame.result.now.shown c.in-Some.ahead
    (sym c.come_to.ensures ∙ c.in-Some.is)
    (set_shows net m c.requires.sound c.in_ok-spot-2.spot.set c.frame.result.now c.frame.ensures))
