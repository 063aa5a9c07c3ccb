use Rattle.std.proofs.Common.{false, length}
use Rattle.g4_trees.proofs.Appended.{Leaves}
use Rattle.g4_trees.specs.Pieces.{items_text}
use Rattle.g4_trees.proofs.text.push_items.Given as goal

abbrev pub invariant-loop-rest : goal.invariant-loop-rest
invariant-loop-rest g l = Leaves (items_text l.rules l.tokens false l.items) (items_text l.rules l.tokens l.entered l.rest)
    l.initial.out.items l.out.items

abbrev pub decreases-loop-rest : goal.decreases-loop-rest
decreases-loop-rest g l = length l.rest
