use Rattle.std.proofs.Common.{◌≡◌, ◌<◌, Option, Some, length, sym, ap, subst, ◌∙◌, arith}
use Rattle.std.proofs.lemmas.Option.{slice_get-get_or, slice_get_within}
use Rattle.g4_net.specs.Network.{ParserNetwork}
use Rattle.g4_guards.specs.Levels.{IsDecision}
use Rattle.g4_guards.specs.Tests.{HasTests}
use Rattle.g4_guards.specs.declared.tests.Tests.{Tests}
use Rattle.g4_learned.specs.Tables.{Tables}
use Rattle.g4_learned.proofs.decision_net.DecisionNet.tests_of.Goals as goal

pub returns : goal.returns
returns c =
    let net_is : c.self.inside.net ≡ c.args.self.now.net = ap (λ (t : Tables). t.net) c.self.view_is in
    let d = c.args.decision in
    let decides = subst (λ (n : ParserNetwork). IsDecision n d) (sym net_is) c.requires in
    let have = c.self.invariant.1 in
    let count = have.count in
    let inside = slice_get_within c.self.inside.net.states d _ decides.1 in
    let less : d < length c.self.inside.tests.items = omega (arith, count, inside) in
    let found : Tests = c.index.result.now in
    subst (λ (n : ParserNetwork). HasTests n d found) net_is
    (have.each d found (slice_get-get_or c.self.inside.tests.items d found less ∙ ap (λ (t : Tests). let x : Option Tests = Some t in x)
    (sym c.index.ensures)))
