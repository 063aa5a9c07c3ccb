use Rattle.std.proofs.Common.{◌*◌, ◌+◌, ◌%◌, ℕ, ap, ◌∙◌}
use Rattle.g4_stacks.proofs.Sums.{of_pushed}
use Rattle.g4_stacks.proofs.sum.Sum.below.Goals as goal

pub returns : goal.returns
returns c = λ xs x.
    of_pushed c.args.state c.args.self.count c.args.self.total c.times.result xs x
    (c.times.ensures.is ∙ ap (λ (m : ℕ). (m * ((c.args.self.total + 3 * c.args.self.count) % 4294967291)) % 4294967291) c.mixed.ensures.is)
