use Rattle.std.proofs.Common.{rules, arith}
use Rattle.g4_guards.specs.Levels.{any_level}
use Rattle.g4_guards.specs.Tests.{HasNoPredicate, HasTests}
use Rattle.g4_guards.specs.declared.tests.Tests.TheVariants.{Few}
use Rattle.g4_learned_tests.proofs.Conditions.{few_from_0}
use Rattle.g4_learned_tests.proofs.asking.has_conditions.Goals as goal

pub returns-in-Levels : goal.returns-in-Levels
returns-in-Levels c = λ is. let none : HasNoPredicate c.args.net.now c.args.state = search rules in any_level none

pub returns-in-Few : goal.returns-in-Few
returns-in-Few c = λ is.
    let has : HasTests c.args.net.now c.args.state Few = search rules in few_from_0 c.args.net.now c.args.state 0 has (omega arith)
