use Rattle.std.proofs.Common.{ℕ, List, sym, subst, take}
use Rattle.std.proofs.lemmas.List.{take_more, take_all}
use Rattle.g4_classes.specs.Partitions.{IsDividing}
use Rattle.g4_classes.proofs.Dividing.{divided}
use Rattle.g4_classes.proofs.partition.Partition.divide.Goals as goal

pub loop-symbol-preserved : goal.loop-symbol-preserved
loop-symbol-preserved c =
    let loop = c.loop-symbol in
    let now = c.move_symbol.new.self in
    subst (λ (seen : List ℕ). IsDividing seen c.args.self.now.blocks.items c.len-first_new.result now.blocks.items now.moved.items)
    (sym (take_more c.args.set.now loop.symbol-index 0 c.loop-symbol-test.true))
    (c.in_ok-move_symbol.ensures.moves (take loop.symbol-index c.args.set.now) c.args.self.now.blocks.items loop.invariant)

pub returns : goal.returns
returns c =
    let loop = c.loop-symbol in
    divided c.args.set.now c.args.self.now.blocks.items c.len-first_new.result loop.self.blocks.items loop.self.moved.items
    (subst (λ (seen : List ℕ). IsDividing seen c.args.self.now.blocks.items c.len-first_new.result loop.self.blocks.items
    loop.self.moved.items) (take_all loop.symbol-index c.args.set.now c.loop-symbol-test.false) loop.invariant)
