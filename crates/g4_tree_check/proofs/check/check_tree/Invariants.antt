use Rattle.std.proofs.Common.{◌↔◌, drop}
use Rattle.g4_tokens.specs.TokenList.{word_of}
use Rattle.g4_tree_check.specs.Standing.{CanEnd}
use Rattle.g4_tree_check.specs.TreesOf.{IsTreeOf}
use Rattle.g4_tree_check.proofs.check.check_tree.Given as goal

abbrev pub invariant-loop-item : goal.invariant-loop-item
invariant-loop-item l = IsTreeOf l.rules (word_of l.tokens) l.tree
    ↔ CanEnd l.rules (word_of l.tokens) l.standing (drop l.item-index l.item-items)
