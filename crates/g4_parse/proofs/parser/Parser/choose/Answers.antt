use Rattle.std.proofs.Common.{◌≡◌, ℕ, List, length, sym, subst}
use Rattle.std.specs.Prelude.{Some, Ok, Err}
use Rattle.g4_net.specs.declared.network.State.TheVariants.{Decision}
use Rattle.g4_net.specs.Network.{ParserNetwork, state_at}
use Rattle.g4_tokens.specs.TokenList.{word_of}
use Rattle.g4_parse.specs.Deciding.{IsPredicted, of_decide}
use Rattle.g4_parse.specs.Foresight.{Foresees, IsForeseen}
use Rattle.g4_parse.specs.Standing.{IsDeciding}
use Rattle.g4_parse.proofs.Foreseeing.{decision_leads}
use Rattle.g4_parse.proofs.Turns.{chooses, decides_fault, fails_with, first_at, had_decided, own_predicted}
use Rattle.g4_parse.proofs.parser.Parser.choose.Goals as goal

pub chosen-requires-clause-deciding : goal.chosen-requires-clause-deciding
chosen-requires-clause-deciding g c =
    subst (λ (n : ParserNetwork). IsDeciding n (length c.args.tokens.now) c.args.self.now) c.requires.own c.requires.deciding

pub chosen-requires-clause-decides : goal.chosen-requires-clause-decides
chosen-requires-clause-decides g c =
    subst (λ (n : ParserNetwork). state_at n c.args.self.now.state ≡ Some (Decision c.args.targets.now)) c.requires.own c.requires.decides

pub chosen-requires-clause-foreseen : goal.chosen-requires-clause-foreseen
chosen-requires-clause-foreseen g c =
    subst (λ (n : ParserNetwork). IsForeseen n (g.P.Predicates.values c.args.predicates.now) (word_of c.args.tokens.now) c.args.self.now
    c.args.trial.now) c.requires.own c.requires.foreseen

pub go_to-requires-clause-first : goal.go_to-requires-clause-first
go_to-requires-clause-first g c =
    let values = g.P.Predicates.values c.args.predicates.now in
    first_at c.args.net.now g.B.Home.plan.net.net values (word_of c.args.tokens.now) (length c.args.tokens.now) c.args.self.now
    c.in_ok-alternative.alternative c.requires.own c.requires.deciding c.in_ok-alternative.ensures.predicted

pub returns-in_err-alternative-clause-turns : goal.returns-in_err-alternative-clause-turns
returns-in_err-alternative-clause-turns g c = λ r h.
    let net = c.args.net.now in
    let word : List ℕ = word_of c.args.tokens.now in
    let values = g.P.Predicates.values c.args.predicates.now in
    let fault = c.in_err-alternative.field-0.0 in
    let said : IsPredicted net values word r (Err fault) =
    own_predicted net g.B.Home.plan.net.net values word r (Err fault) c.requires.own (c.in_err-alternative.ensures.predicted r h) in
    fails_with net values word (Some (Decision c.args.targets.now)) r _ (of_decide fault)
    c.from_residual.result c.from_residual.ensures.1 (decides_fault net values word r c.args.targets.now fault said)

pub returns-in_err-alternative-clause-taught : goal.returns-in_err-alternative-clause-taught
returns-in_err-alternative-clause-taught g c = λ had r h.
    c.in_err-alternative.ensures.taught
    (had_decided c.from_residual.result c.in_err-alternative.field-0.0 c.from_residual.ensures.1 had) r h

pub returns-clause-turns : goal.returns-clause-turns
returns-clause-turns g c = λ r h.
    let net = c.args.net.now in
    let word : List ℕ = word_of c.args.tokens.now in
    let values = g.P.Predicates.values c.args.predicates.now in
    let i : ℕ = c.in_ok-alternative.alternative in
    let said : IsPredicted net values word r (Ok i) =
    own_predicted net g.B.Home.plan.net.net values word r (Ok i) c.requires.own (c.in_ok-alternative.ensures.predicted r h) in
    chooses net values word r _ c.args.targets.now i said.1.0 said.0 said.1.1 (c.go_to.ensures r said.1.0 h said.1.1)

pub returns-clause-foresees : goal.returns-clause-foresees
returns-clause-foresees g c = λ r s h foresees step.
    let net = c.args.net.now in
    let word : List ℕ = word_of c.args.tokens.now in
    let values = g.P.Predicates.values c.args.predicates.now in
    let now : Foresees net values word c.chosen.new.trial r =
    subst (λ (n : ParserNetwork). Foresees n values word c.chosen.new.trial r) (sym c.requires.own)
    (c.in_ok-alternative.ensures.foresees r
    (subst (λ (n : ParserNetwork). Foresees n values word c.args.trial.now r) c.requires.own foresees)) in
    c.take_decision.ensures net values word r s
    (decision_leads net values word (length c.args.tokens.now) c.args.self.now r s c.args.targets.now h c.requires.deciding
    c.requires.decides step) now

pub returns-clause-taught : goal.returns-clause-taught
returns-clause-taught g c = λ had r h. c.in_ok-alternative.ensures.taught tt r h
