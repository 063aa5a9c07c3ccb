use Rattle.g4_recursion.proofs.Numbering.{one_numbered}
use Rattle.g4_recursion.proofs.numbers.numbers_of.Goals as goal

pub loop-number-preserved : goal.loop-number-preserved
loop-number-preserved c = one_numbered c.args.rules.now c.loop-number.number c.index-rules-number.result c.loop-number.numbers
    c.add.new.self c.loop-number-test.true c.index-rules-number.is c.loop-number.invariant c.in_ok-add.ensures
