use Rattle.std.proofs.Common.{rules, ◌∙◌}
use Rattle.g4_guards.proofs.Testing.{count_tests}
use Rattle.g4_guards.proofs.tests.count_tests.Goals as goal

pub returns : goal.returns
returns c = (search rules) ∙ count_tests c.args.net.now c.args.targets.now
