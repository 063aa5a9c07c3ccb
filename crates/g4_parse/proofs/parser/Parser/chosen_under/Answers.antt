use Rattle.std.proofs.Common.{drop, length, reverse}
use Rattle.g4_tokens.specs.TokenList.{word_of}
use Rattle.g4_parse.proofs.Deciding.{chosen_predicts, decided_predicts, far_matters, fault_predicts, known_option}
use Rattle.g4_parse.proofs.Teaching.{asked_at}
use Rattle.g4_parse.proofs.Turns.{proper_stack, under_here}
use Rattle.g4_parse.proofs.parser.Parser.chosen_under.Goals as goal

pub decide-requires-clause-proper : goal.decide-requires-clause-proper
decide-requires-clause-proper g c =
    proper_stack g.B.Home.plan.net.net (length c.args.tokens.now) c.args.self.now c.as_slice-returns.result.now
    c.as_slice-returns.ensures.value c.requires.deciding

pub decide-requires-clause-condition : goal.decide-requires-clause-condition
decide-requires-clause-condition g c =
    let deciding = c.requires.deciding in
    (under_here g.B.Home.plan.net.net (g.P.Predicates.values c.args.predicates.now) (word_of c.args.tokens.now) deciding.0 c.args.self.now
    c.args.condition deciding.1 (c.requires.condition deciding.0 deciding.1)).0

pub decide-requires-clause-known : goal.decide-requires-clause-known
decide-requires-clause-known g c =
    known_option g.B.Home.plan.net.net (g.P.Predicates.values c.args.predicates.now) (word_of c.args.tokens.now) c.args.self.now
    c.args.trial.now c.args.condition c.as_slice-returns.result.now c.next-known.result c.as_slice-returns.ensures.value
    c.next-known.ensures
    c.requires.decides c.requires.condition c.requires.foreseen

pub chosen_far-requires-clause-matters : goal.chosen_far-requires-clause-matters
chosen_far-requires-clause-matters g c =
    far_matters g.B.Home.plan.net.net c.args.self.now.state c.args.condition c.args.self.now.place (reverse c.as_slice-returns.result.now)
    (drop c.args.self.now.place (word_of c.args.tokens.now)) c.in-Ok-Far.field-0 c.in-Ok-Far.field-0-is c.in-Ok-Far.ensures.decided

pub returns-in-Ok-Chosen-clause-predicted : goal.returns-in-Ok-Chosen-clause-predicted
returns-in-Ok-Chosen-clause-predicted g c = λ r h.
    decided_predicts g.B.Home.plan.net.net (g.P.Predicates.values c.args.predicates.now) (word_of c.args.tokens.now) c.args.self.now
    c.args.condition c.requires.condition r h c.as_slice-returns.result.now c.in-Ok-Chosen.field-0 c.in-Ok-Chosen.alternative
    c.as_slice-returns.ensures.value c.in-Ok-Chosen.field-0-is c.in-Ok-Chosen.ensures.decided

pub returns-in-Ok-Chosen-clause-taught : goal.returns-in-Ok-Chosen-clause-taught
returns-in-Ok-Chosen-clause-taught g c = λ had r h.
    let asked = c.in-Ok-Chosen.ensures.asked tt in
    asked_at g.B.Home.plan c.requires.plan (g.P.Predicates.values c.args.predicates.now) (word_of c.args.tokens.now) r c.args.self.now
    c.args.condition asked.0 c.args.pass.now c.decide.new.pass h (c.requires.condition r h) c.in-Ok-Chosen.ensures.keeps asked.1

pub returns-in-Ok-Far-clause-predicted : goal.returns-in-Ok-Far-clause-predicted
returns-in-Ok-Far-clause-predicted g c = λ r h.
    chosen_predicts g.B.Home.plan.net.net (g.P.Predicates.values c.args.predicates.now) (word_of c.args.tokens.now) c.args.self.now
    c.args.condition c.requires.condition r h c.chosen_far.result c.chosen_far.ensures.chosen

pub returns-in-Ok-Far-clause-taught : goal.returns-in-Ok-Far-clause-taught
returns-in-Ok-Far-clause-taught g c = λ had r h.
    let asked = c.in-Ok-Far.ensures.asked tt in
    asked_at g.B.Home.plan c.requires.plan (g.P.Predicates.values c.args.predicates.now) (word_of c.args.tokens.now) r c.args.self.now
    c.args.condition asked.0 c.args.pass.now c.decide.new.pass h (c.requires.condition r h) c.in-Ok-Far.ensures.keeps asked.1

pub returns-in-Err-clause-predicted : goal.returns-in-Err-clause-predicted
returns-in-Err-clause-predicted g c = λ r h.
    fault_predicts g.B.Home.plan.net.net (g.P.Predicates.values c.args.predicates.now) (word_of c.args.tokens.now) c.args.self.now
    c.args.condition c.requires.condition r h c.as_slice-returns.result.now c.in-Err.fault c.as_slice-returns.ensures.value
    c.in-Err.ensures.decided

pub returns-in-Err-clause-taught : goal.returns-in-Err-clause-taught
returns-in-Err-clause-taught g c = λ had r h.
    let asked = c.in-Err.ensures.asked had in
    asked_at g.B.Home.plan c.requires.plan (g.P.Predicates.values c.args.predicates.now) (word_of c.args.tokens.now) r c.args.self.now
    c.args.condition asked.0 c.args.pass.now c.decide.new.pass h (c.requires.condition r h) c.in-Err.ensures.keeps asked.1
