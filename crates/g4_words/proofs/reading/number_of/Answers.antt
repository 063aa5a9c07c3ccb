use Rattle.std.proofs.Common.{rules}
use Rattle.g4_words.proofs.Numbers.{past_most}
use Rattle.g4_words.proofs.reading.number_of.Goals as goal

pub returns-then-number-most : goal.returns-then-number-most
returns-then-number-most c = λ other.
    rw (c.in-Some.is) (past_most c.in-Some.text.now c.args.default c.args.most c.in-Some-written_number.number other (search rules)
    (search rules) c.if-number-most.true c.in-Some-written_number.ensures)
