use Rattle.std.proofs.Common.{Err, List, Ok, length, refl, sym, subst, ℕ}
use Rattle.g4_net.specs.Network.{ParserNetwork}
use Rattle.g4_tokens.specs.TokenList.{word_of}
use Rattle.g4_parse.specs.Foresight.{IsForeseen}
use Rattle.g4_parse.specs.Standing.{HasEnded, IsUnderway}
use Rattle.g4_parse.proofs.Foreseeing.{own_foresees}
use Rattle.g4_parse.proofs.Onward.{begun_foreseen, ends_taught, fails_taught, had_fault, own_turn, parse_fails, run_ends, turn_fails, turn_falls, turn_foreseen, underway}
use Rattle.g4_parse.proofs.Teaching.{kept_then}
use Rattle.g4_parse.proofs.runs.run.Goals as goal

pub run-init : goal.run-init
run-init g c = begun_foreseen g.B.Home.plan c.requires.plan (g.P.Predicates.values c.args.predicates.now)
    (word_of c.args.tokens.now) c.args.pass.now c.new-parser.result c.new-trial.result c.requires.ends c.new-parser.ensures
    (c.new-trial.ensures g.B.Home.plan.net.net (g.P.Predicates.values c.args.predicates.now) (word_of c.args.tokens.now))

pub turn-requires-clause-underway : goal.turn-requires-clause-underway
turn-requires-clause-underway g c =
    subst (λ (n : ParserNetwork). IsUnderway n (length c.args.tokens.now) c.run.parser) (sym c.requires.own)
    (underway g.B.Home.plan c.requires.plan
    (g.P.Predicates.values c.args.predicates.now) c.args.tokens.now c.args.pass.now c.run.pass c.run.parser c.run.invariant.0)

pub turn-requires-clause-foreseen : goal.turn-requires-clause-foreseen
turn-requires-clause-foreseen g c =
    subst (λ (n : ParserNetwork). IsForeseen n (g.P.Predicates.values c.args.predicates.now) (word_of c.args.tokens.now) c.run.parser
    c.run.trial) (sym c.requires.own) (c.run.invariant.0.run, c.run.invariant.0.stands, c.run.invariant.1)

pub run-preserved : goal.run-preserved
run-preserved g c =
    let own = g.B.Home.plan.net.net in
    let values = g.P.Predicates.values c.args.predicates.now in
    let word : List ℕ = word_of c.args.tokens.now in
    turn_foreseen g.B.Home.plan c.requires.plan values word c.args.pass.now c.run.pass c.turn.new.pass c.run.parser c.turn.new.self
    c.run.trial c.turn.new.trial c.run.invariant
    (own_turn c.args.net.now own values word c.run.parser c.turn.new.self (Ok tt) c.requires.own c.in_ok-turn.ensures.turns)
    c.in_ok-turn.ensures.kept (c.in_ok-turn.ensures.taught tt)
    (own_foresees c.args.net.now own values word c.run.parser c.run.trial c.turn.new.trial c.requires.own c.in_ok-turn.ensures.foresees)

pub run-smaller : goal.run-smaller
run-smaller g c =
    let own = g.B.Home.plan.net.net in
    let values = g.P.Predicates.values c.args.predicates.now in
    let word = word_of c.args.tokens.now in
    turn_falls g.B.Home.plan c.requires.plan values c.args.tokens.now c.args.pass.now c.run.pass c.run.parser c.turn.new.self
    c.run.invariant.0
    (own_turn c.args.net.now own values word c.run.parser c.turn.new.self (Ok tt) c.requires.own c.in_ok-turn.ensures.turns)

pub returns-in_err-turn-clause-parse : goal.returns-in_err-turn-clause-parse
returns-in_err-turn-clause-parse g c =
    let own = g.B.Home.plan.net.net in
    let values = g.P.Predicates.values c.args.predicates.now in
    let word = word_of c.args.tokens.now in
    parse_fails own values word c.from_residual.result c.in_err-turn.field-0.0 c.from_residual.ensures.1
    (turn_fails g.B.Home.plan c.requires.plan values word c.args.pass.now c.run.pass c.run.parser c.turn.new.self c.in_err-turn.field-0.0
    c.run.invariant.0 (own_turn c.args.net.now own values word c.run.parser c.turn.new.self (Err c.in_err-turn.field-0.0) c.requires.own
    c.in_err-turn.ensures.turns))

pub returns-in_err-turn-clause-kept : goal.returns-in_err-turn-clause-kept
returns-in_err-turn-clause-kept g c =
    kept_then c.args.pass.now c.run.pass c.turn.new.pass c.run.invariant.0.kept c.in_err-turn.ensures.kept

pub returns-in_err-turn-clause-taught : goal.returns-in_err-turn-clause-taught
returns-in_err-turn-clause-taught g c = λ had.
    let own = g.B.Home.plan.net.net in
    let values = g.P.Predicates.values c.args.predicates.now in
    let word = word_of c.args.tokens.now in
    let fault = c.in_err-turn.field-0.0 in
    let some = had_fault c.from_residual.result fault c.from_residual.ensures.1 had in
    fails_taught g.B.Home.plan c.requires.plan values word c.args.pass.now c.run.pass c.turn.new.pass c.run.parser c.turn.new.self fault
    c.run.invariant.0 (own_turn c.args.net.now own values word c.run.parser c.turn.new.self (Err c.in_err-turn.field-0.0) c.requires.own
    c.in_err-turn.ensures.turns)
    c.in_err-turn.ensures.kept some (c.in_err-turn.ensures.taught some)

pub returns-clause-parse : goal.returns-clause-parse
returns-clause-parse g c =
    let ended = subst (λ (n : ParserNetwork). HasEnded n c.run.parser) c.requires.own (c.run-test.ensures.0 refl) in
    run_ends g.B.Home.plan c.requires.plan (g.P.Predicates.values c.args.predicates.now)
    (word_of c.args.tokens.now) c.args.pass.now c.run.pass c.run.parser c.in_ok-finish.field-0
    c.run.invariant.0 ended c.in_ok-finish.ensures

pub returns-clause-taught : goal.returns-clause-taught
returns-clause-taught g c = λ had.
    let ended = subst (λ (n : ParserNetwork). HasEnded n c.run.parser) c.requires.own (c.run-test.ensures.0 refl) in
    ends_taught g.B.Home.plan c.requires.plan (g.P.Predicates.values c.args.predicates.now)
    (word_of c.args.tokens.now) c.args.pass.now c.run.pass c.run.parser c.run.invariant.0 ended
