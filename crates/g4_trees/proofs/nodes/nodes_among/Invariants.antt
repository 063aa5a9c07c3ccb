use Rattle.std.proofs.Common.{◌≡◌, ◌++◌, drop}
use Rattle.g4_trees.specs.Nodes.{nodes_from, nodes_of}
use Rattle.g4_trees.proofs.nodes.nodes_among.Given as goal

abbrev pub invariant-loop-place : goal.invariant-loop-place
invariant-loop-place l = l.nodes.items ++ nodes_from l.place (drop l.place l.items) ≡ nodes_of l.items
