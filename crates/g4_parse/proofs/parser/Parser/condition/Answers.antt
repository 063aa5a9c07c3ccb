use Rattle.std.proofs.Common.{◌≤◌, ◌<◌, ◌^◌, ℕ, List, All, length, sym, subst, arith}
use Rattle.g4_guards.specs.Tests.{HasFewTests, HasNoPredicate, HasTests, tests_among}
use Rattle.g4_guards.specs.declared.tests.Tests.TheVariants.{Many}
use Rattle.g4_net.specs.Network.{ParserNetwork}
use Rattle.g4_run.specs.Running.{Passes}
use Rattle.g4_parse.specs.Teaching.{IsConditionAt}
use Rattle.g4_parse.proofs.Passing.{AreDigits, few_condition, few_of, first_states_within, level_condition}
use Rattle.g4_parse.proofs.parser.Parser.condition.Goals as goal

pub digits-requires-clause-within : goal.digits-requires-clause-within
digits-requires-clause-within g c =
    subst (λ (n : ParserNetwork). All (λ t. t < length n.states) c.args.targets.now) (sym c.net.ensures)
    (first_states_within c.args.decisions.now.net c.args.self.now.state c.args.targets.now c.requires.ready.3.well_formed
    c.requires.decides)

pub digits-requires-clause-few : goal.digits-requires-clause-few
digits-requires-clause-few g c =
    let few = few_of c.args.decisions.now.net c.args.self.now.state c.args.targets.now c.requires.decides c.in-Few.ensures.1 in
    subst (λ (n : ParserNetwork). tests_among n c.args.targets.now ≤ 31) (sym c.net.ensures) (omega (arith, few.1))

pub returns-in-Levels : goal.returns-in-Levels
returns-in-Levels g c = λ word r h.
    let net = c.args.decisions.now.net in
    let values = g.P.Predicates.values c.args.predicates.now in
    let none : HasNoPredicate net r.state = subst (λ (d : ℕ). HasNoPredicate net d) h.state c.in-Levels.ensures in
    subst (IsConditionAt net values word r) (sym (c.newest.ensures r h).1) (level_condition net c.requires.loops values word r none)

pub returns-in-Few : goal.returns-in-Few
returns-in-Few g c = λ word r h.
    let net = c.args.decisions.now.net in
    let targets : List ℕ = c.args.targets.now in
    let values = g.P.Predicates.values c.args.predicates.now in
    let number : ℕ = c.digits.result in
    let few = few_of net c.args.self.now.state targets c.requires.decides c.in-Few.ensures.1 in
    let small : number < 2 ^ tests_among net targets =
    subst (λ (n : ParserNetwork). number < 2 ^ tests_among n targets) c.net.ensures c.digits.ensures.small in
    let digits : AreDigits net (Passes net values word r) targets number =
    subst (λ (n : ParserNetwork). AreDigits n (Passes n values word r) targets number) c.net.ensures (c.digits.ensures.digits word r h) in
    few_condition net values word r targets number
    (subst (λ (d : ℕ). HasNoPredicate net d → ⊥) h.state c.in-Few.ensures.0)
    (subst (λ (d : ℕ). HasFewTests net d targets) h.state few) small digits

pub returns-in-Many : goal.returns-in-Many
returns-in-Many g c = λ word r h.
    subst (λ (d : ℕ). HasTests c.args.decisions.now.net d Many) h.state c.in-Many.ensures
