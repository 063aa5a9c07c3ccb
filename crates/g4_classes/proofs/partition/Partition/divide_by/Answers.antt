use Rattle.std.proofs.Common.{ℕ, List, ◌∙◌, subst}
use Rattle.g4_classes.specs.Partitions.{Divides}
use Rattle.g4_classes.proofs.Dividing.{divided_then}
use Rattle.g4_classes.proofs.partition.Partition.divide_by.Goals as goal

pub returns : goal.returns
returns c =
    let old = c.args.self.now.blocks.items in
    let new = c.divide.new.self.blocks.items in
    subst (λ (symbols : List ℕ). Divides symbols old new) (c.as_slice.ensures.value ∙ c.in_ok-symbols.ensures)
    (divided_then c.as_slice.result.now old c.renumber.new.self.blocks.items new c.in_ok-renumber.ensures c.in_ok-divide.ensures)
