use Rattle.std.proofs.Common.{rules}
use Rattle.g4_learned.proofs.Starting.{tests_more}
use Rattle.g4_learned.proofs.tests.all_tests.Goals as goal

pub loop-number-preserved : goal.loop-number-preserved
loop-number-preserved c = tests_more c.args.net.now c.loop-number.number c.loop-number.tests.items c.push.new.self.items c.tests_of.result
    c.loop-number.invariant (search rules) c.in_ok-push.ensures.items
