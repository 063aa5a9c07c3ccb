use Rattle.std.proofs.Common.{subst}
use Rattle.std.specs.List.Sorted.{IsPermutation}
use Rattle.g4_configs.specs.Groups.{Entries}
use Rattle.g4_configs.proofs.ordered.in_order.Goals as goal

pub returns-clause-permutation : goal.returns-clause-permutation
returns-clause-permutation c =
    subst (λ (es : Entries). IsPermutation es c.sort_unstable.new.self.items) c.in_ok-found.ensures.entries
    c.sort_unstable.ensures.permutation
