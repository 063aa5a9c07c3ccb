use Rattle.std.proofs.Common.{rules, false, List, refl, sym, subst, ℕ}
use Rattle.g4_learned.specs.Tables.{Tables}
use Rattle.g4_net.specs.AddedRule.{IsReady}
use Rattle.g4_net.specs.Network.{ParserNetwork}
use Rattle.g4_tokens.specs.TokenList.{word_of}
use Rattle.g4_parse.specs.Standing.{HasEnded}
use Rattle.g4_parse.proofs.Trying.{IsTrying, goes_past, trying_begins, trying_ends, trying_falls, trying_on, trying_underway}
use Rattle.g4_parse.proofs.trial.try_run.Goals as goal

pub trial-init : goal.trial-init
trial-init g c =
    let net = c.args.decisions.now.net in
    let values = g.P.Predicates.values c.args.predicates.now in
    let word : List ℕ = word_of c.args.tokens.now in
    subst (λ (xs : List ℕ). IsTrying net values word c.new-parser.result xs) (sym c.new-alternatives.ensures.items)
    (trying_begins net values word c.new-parser.result
    (subst (λ (t : Tables). IsReady t.net) (sym c.requires.own) c.requires.plan.ready) c.requires.ends c.new-parser.ensures)

pub try_turn-requires-clause-underway : goal.try_turn-requires-clause-underway
try_turn-requires-clause-underway g c =
    trying_underway c.args.decisions.now.net (g.P.Predicates.values c.args.predicates.now) c.args.tokens.now c.trial.parser
    c.trial.alternatives.items c.trial.invariant

pub try_turn-requires-clause-goes_on : goal.try_turn-requires-clause-goes_on
try_turn-requires-clause-goes_on g c =
    goes_past c.net-net.result.now c.args.decisions.now.net c.trial.parser false c.net-net.ensures c.trial-test.ensures refl

pub trial-preserved : goal.trial-preserved
trial-preserved g c =
    trying_on c.args.decisions.now.net (g.P.Predicates.values c.args.predicates.now) (word_of c.args.tokens.now) c.trial.parser
    c.try_turn.new.self c.trial.alternatives.items c.try_turn.new.alternatives.items c.trial.invariant
    (c.in_ok-went.ensures c.trial.invariant.run c.trial.invariant.stands (search rules))

pub trial-smaller : goal.trial-smaller
trial-smaller g c =
    trying_falls c.args.decisions.now.net (g.P.Predicates.values c.args.predicates.now) c.args.tokens.now c.trial.parser
    c.try_turn.new.self c.trial.alternatives.items c.try_turn.new.alternatives.items c.trial.invariant
    (c.in_ok-went.ensures c.trial.invariant.run c.trial.invariant.stands (search rules))

pub returns : goal.returns
returns g c =
    trying_ends c.args.decisions.now.net (g.P.Predicates.values c.args.predicates.now) c.args.tokens.now c.trial.parser
    c.trial.alternatives.items c.trial.invariant
    (subst (λ (n : ParserNetwork). HasEnded n c.trial.parser) c.net-net.ensures (c.trial-test.ensures.0 refl)) (search rules)
