use Rattle.std.proofs.Common.{◌≡◌, ◌∙◌, true, false, sym}
use Rattle.g4_patterns.proofs.Printed.{ends, has_last}
use Rattle.g4_patterns.proofs.Subtrees.{tree_begins, tree_there}
use Rattle.g4_patterns.proofs.print.items_at.Goals as goal

pub returns-then-not-is_tree-clause-tree : goal.returns-then-not-is_tree-clause-tree
returns-then-not-is_tree-clause-tree c = λ t at.
    let never : false ≡ true =
    sym c.if-not-is_tree.true ∙ c.is_tree.ensures ∙ tree_begins c.args.ground.now.items.now c.args.node t at in
    absurd (cc)

pub returns-in-Some-clause-tree : goal.returns-in-Some-clause-tree
returns-in-Some-clause-tree c = λ t at.
    let g = c.args.ground.now in
    let e = ends g.items.now g.lasts.now c.args.node c.in-Some.last t c.requires.lasts_are at (sym c.in-Some.ensures) in
    c.part.ensures e.low e.high ∙ e.items

pub returns-in-Some-clause-none : goal.returns-in-Some-clause-none
returns-in-Some-clause-none c = λ never.
    let t = tree_there c.args.ground.now.items.now c.requires.nested c.args.node (sym c.is_tree.ensures ∙ c.if-not-is_tree.false) in
    absurd (never t.0 t.1)

pub returns-in-None-clause-tree : goal.returns-in-None-clause-tree
returns-in-None-clause-tree c = λ t at.
    let g = c.args.ground.now in
    absurd (has_last g.items.now g.lasts.now c.args.node t c.requires.lasts_are at (sym c.in-None.ensures))
