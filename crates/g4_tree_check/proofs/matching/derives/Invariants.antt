use Rattle.std.proofs.Common.{map}
use Rattle.g4_source.specs.Trees.{element_of, in_order}
use Rattle.g4_tokens.specs.TokenList.{word_of}
use Rattle.g4_tree_check.proofs.Reached.{Stands}
use Rattle.g4_tree_check.proofs.matching.derives.Given as goal

abbrev pub invariant-loop-head : goal.invariant-loop-head
invariant-loop-head l = Stands (word_of l.tokens) (in_order (map element_of l.elements)) l.heads l.first l.marks.items l.head-index
