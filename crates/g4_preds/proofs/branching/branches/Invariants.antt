use Rattle.g4_preds.specs.Branches.{branches_of}
use Rattle.g4_preds.specs.Postfix.{tree_of}
use Rattle.g4_preds.proofs.Waiting.{Found}
use Rattle.g4_preds.proofs.branching.branches.Given as goal

abbrev pub invariant-loop-exit : goal.invariant-loop-exit
invariant-loop-exit l = Found l.nodes (branches_of (tree_of l.nodes)) l.end l.exits l.branches.items

abbrev pub decreases-loop-exit : goal.decreases-loop-exit
decreases-loop-exit l = l.end
