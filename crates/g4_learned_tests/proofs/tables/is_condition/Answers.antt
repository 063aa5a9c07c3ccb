use Rattle.std.proofs.Common.{rules, ◌≡◌, arith}
use Rattle.g4_guards.specs.Tests.{HasTests}
use Rattle.g4_guards.specs.declared.tests.Tests.TheVariants.{Few}
use Rattle.g4_learned_tests.proofs.Conditions.{few_from_0}
use Rattle.g4_learned_tests.proofs.tables.is_condition.Goals as goal

pub returns-in-Few : goal.returns-in-Few
returns-in-Few c = λ is.
    let has : HasTests c.args.net.now 0 Few = search rules in
    few_from_0 c.args.net.now 0 c.args.condition has (let e : c.args.condition ≡ 0 = search rules in omega (arith, e))
