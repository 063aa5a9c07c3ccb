use Rattle.std.proofs.Common.{drop}
use Rattle.g4_trees.proofs.Appended.{Leaves}
use Rattle.g4_trees.specs.TreeText.{shown_bytes}
use Rattle.g4_trees.proofs.text.push_shown_bytes.Given as goal

abbrev pub invariant-loop-byte : goal.invariant-loop-byte
invariant-loop-byte l = Leaves (shown_bytes l.bytes) (shown_bytes (drop l.byte-index l.bytes)) l.initial.out.items l.out.items
