use Rattle.std.proofs.Common.{◌∙◌, ◌+◌, ◌≤◌, arith, reverse, sym}
use Rattle.std.proofs.lemmas.Bool.Decides.{nat_tests}
use Rattle.g4_net.specs.Allowed.{Allows}
use Rattle.g4_configs.specs.Configs.{Holds}
use Rattle.g4_frames.specs.Framed.{FramedStart}
use Rattle.g4_frames.proofs.Meaning.{start_framed}
use Rattle.g4_lookahead.proofs.Proper.{turned_within}
use Rattle.g4_full.proofs.Placing.{advances_framed, framed_same}
use Rattle.g4_full.proofs.FullLooking.{placed_ahead, placed_next, placed_start, within_word}
use Rattle.g4_full.proofs.Showing.{shows_ends, shows_goes}
use Rattle.g4_full.proofs.full.look_over.Goals as goal

pub take_down-requires-clause-states : goal.take_down-requires-clause-states
take_down-requires-clause-states c = turned_within c.args.net.now c.args.decision c.args.returns.now c.requires.ready.3.well_formed
    c.requires.proper

pub take_down-requires-clause-framed : goal.take_down-requires-clause-framed
take_down-requires-clause-framed c = framed_same c.args.net.now (Holds c.in_ok-first.first)
    (FramedStart c.args.net.now c.args.decision (Allows c.args.allowed.now)) c.in_ok-first.ensures.members
    (start_framed c.args.net.now c.args.decision (Allows c.args.allowed.now))

pub loop-k-init : goal.loop-k-init
loop-k-init c =
    placed_start c.args.net.now c.args.decision (Allows c.args.allowed.now) (reverse c.args.returns.now) c.in_ok-place.place.below.now
    c.args.tokens.now (Holds c.in_ok-first.first) (Holds c.in_ok-place.place.set) c.requires.ready c.requires.proper
    c.requires.ends c.in_ok-first.ensures.members c.in_ok-place.ensures

pub take_down-requires-in-loop-k-clause-framed : goal.take_down-requires-in-loop-k-clause-framed
take_down-requires-in-loop-k-clause-framed c =
    advances_framed c.args.net.now (Holds c.loop-k.place.set) (Holds c.in_ok-next.next) _ c.loop-k.invariant.place.bottomed
    c.in_ok-next.ensures.members

pub loop-k-preserved : goal.loop-k-preserved
loop-k-preserved c =
    placed_next c.args.net.now c.args.decision (Allows c.args.allowed.now) (reverse c.args.returns.now)
    c.args.tokens.now c.loop-k.k _ c.loop-k-test.true (Holds c.loop-k.place.set) (Holds c.in_ok-next.next)
    (Holds c.in_ok-place-2.place.set) c.loop-k.place.below.now c.in_ok-place-2.place.below.now c.loop-k.invariant
    c.in_ok-next.ensures.members c.in_ok-place-2.ensures
    (shows_goes (Holds c.in_ok-place-2.place.set) c.loop-k.k _ c.in_ok-shown.shown (sym c.come_to.ensures ∙ c.in_default.is)
    c.in_ok-shown.ensures)

pub returns-in-Some : goal.returns-in-Some
returns-in-Some c =
    placed_ahead c.args.net.now c.args.decision (Allows c.args.allowed.now) (reverse c.args.returns.now)
    c.args.tokens.now c.loop-k.k _ c.loop-k-test.true (Holds c.loop-k.place.set) (Holds c.in_ok-next.next)
    (Holds c.in_ok-place-2.place.set) c.loop-k.place.below.now c.in_ok-place-2.place.below.now c.loop-k.invariant
    c.in_ok-next.ensures.members c.in_ok-place-2.ensures c.args.most _ c.in-Some.ahead
    (λ is. within_word c.args.tokens.now c.loop-k.k c.args.most c.loop-k-test.true
    (let few : c.args.most ≤ c.loop-k.k + 1 = grind (arith, nat_tests) in few))
    (shows_ends (Holds c.in_ok-place-2.place.set) c.loop-k.k _ c.in_ok-shown.shown c.in-Some.ahead
    (sym c.come_to.ensures ∙ c.in-Some.is) c.in_ok-shown.ensures)
