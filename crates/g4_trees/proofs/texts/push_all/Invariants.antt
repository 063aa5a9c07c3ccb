use Rattle.std.proofs.Common.{drop}
use Rattle.std.specs.List.{flat_map}
use Rattle.g4_trees.proofs.Appended.{Leaves}
use Rattle.g4_trees.proofs.texts.push_all.Given as goal

abbrev pub invariant-loop-text : goal.invariant-loop-text
invariant-loop-text l = Leaves (flat_map (λ t. t.now) l.texts) (flat_map (λ t. t.now) (drop l.text-index l.texts)) l.initial.out.items
    l.out.items
