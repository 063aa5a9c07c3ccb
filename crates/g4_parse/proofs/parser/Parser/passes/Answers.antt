use Rattle.std.proofs.Common.{refl}
use Rattle.g4_run.specs.Running.{no_test}
use Rattle.g4_parse.proofs.Passing.{tests_fall}
use Rattle.g4_parse.proofs.parser.Parser.passes.Goals as goal

pub tests-smaller : goal.tests-smaller
tests-smaller g c = tests_fall c.args.net.now c.requires.ready.3.well_formed c.tests.state c.in-Holds.target c.tests.invariant.within
    c.in-Holds.ensures.leads.1

pub returns-in-Untested : goal.returns-in-Untested
returns-in-Untested g c = λ word r h.
    let before = c.tests.invariant.same word r h in
    ((λ yes. before.1 (no_test c.tests.state (c.in-Untested.ensures.tested word r h))), λ x. refl)
