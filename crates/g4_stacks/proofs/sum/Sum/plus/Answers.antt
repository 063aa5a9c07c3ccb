use Rattle.g4_stacks.proofs.Sums.{of_both}
use Rattle.g4_stacks.proofs.sum.Sum.plus.Goals as goal

pub returns : goal.returns
returns c = λ xs ys x y. of_both c.args.self.count c.args.self.total c.args.other.count c.args.other.total xs ys x y
