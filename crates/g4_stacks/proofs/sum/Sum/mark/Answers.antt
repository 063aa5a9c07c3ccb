use Rattle.std.proofs.Common.{Bool, sym, subst}
use Rattle.g4_stacks.specs.Listing.{marked}
use Rattle.g4_stacks.specs.Sums.{IsSum}
use Rattle.g4_stacks.proofs.Sums.{of_mark}
use Rattle.g4_stacks.proofs.sum.Sum.mark.Goals as goal

pub returns-then-not-present : goal.returns-then-not-present
returns-then-not-present c = λ s mark.
    subst (λ (b : Bool). IsSum c.nothing.result.count c.nothing.result.total (marked b s)) (sym c.if-not-present.true) c.nothing.ensures

pub returns : goal.returns
returns c = λ s mark.
    subst (λ (b : Bool). IsSum 1 c.args.total (marked b s)) (sym c.if-not-present.false) (of_mark s c.args.total mark c.requires)
