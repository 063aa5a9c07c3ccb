use Rattle.std.proofs.Common.{List, ℕ, sym, subst}
use Rattle.g4_guards.specs.Tests.{HasTests}
use Rattle.g4_guards.specs.declared.tests.Tests.TheVariants.{Many}
use Rattle.g4_learned.specs.Tables.{Tables}
use Rattle.g4_net.specs.Network.{ParserNetwork}
use Rattle.g4_tokens.specs.TokenList.{word_of}
use Rattle.g4_parse.specs.Teaching.{IsConditionAt}
use Rattle.g4_parse.proofs.Passing.{many_unconditioned}
use Rattle.g4_parse.proofs.Teaching.{unguarded}
use Rattle.g4_parse.proofs.parser.Parser.chosen.Goals as goal

pub chosen_under-requires-clause-condition : goal.chosen_under-requires-clause-condition
chosen_under-requires-clause-condition g c = λ r h.
    let values = g.P.Predicates.values c.args.predicates.now in
    let word : List ℕ = word_of c.args.tokens.now in
    subst (λ (t : Tables). IsConditionAt t.net values word r c.in-Some.condition) c.net-decisions.ensures.is (c.in-Some.ensures word r h)

pub chosen_by_stack-requires-clause-many : goal.chosen_by_stack-requires-clause-many
chosen_by_stack-requires-clause-many g c =
    let deciding = c.requires.deciding in
    subst (λ (n : ParserNetwork). HasTests n c.args.self.now.state Many) (sym c.net.ensures)
    (subst (λ (d : ℕ). HasTests c.net-decisions.result.now.net d Many) (sym deciding.1.state)
    (c.in-None.ensures (word_of c.args.tokens.now) deciding.0 deciding.1))

pub returns-in-None-clause-taught : goal.returns-in-None-clause-taught
returns-in-None-clause-taught g c = λ had r h.
    let values = g.P.Predicates.values c.args.predicates.now in
    let word : List ℕ = word_of c.args.tokens.now in
    let many : HasTests g.B.Home.plan.net.net r.state Many =
    subst (λ (t : Tables). HasTests t.net r.state Many) c.net-decisions.ensures.is (c.in-None.ensures word r h) in
    unguarded g.B.Home.plan c.requires.plan values word r c.args.pass.now
    (λ n is. many_unconditioned g.B.Home.plan.net.net r.state n many is)
