use Rattle.std.proofs.Common.{drop, arith, sym, ◌∙◌}
use Rattle.g4_preds.specs.Branches.{branches_of}
use Rattle.g4_preds.specs.Postfix.{tree_of}
use Rattle.g4_preds.proofs.Waiting.{all_wait, popped, some_left, one_found, all_found, none_waits}
use Rattle.g4_preds.proofs.branching.branches.Goals as goal

pub loop-exit-init : goal.loop-exit-init
loop-exit-init c =
    let nodes = c.args.nodes.now in
    rw (c.in_ok-push.ensures, c.new-exits.ensures, c.new-branches.ensures.items) (all_wait nodes (tree_of nodes) c.requires)

pub overflow_sub-end : goal.overflow_sub-end
overflow_sub-end c = some_left c.args.nodes.now _ c.loop-exit.end c.in-Some.exit (drop 1 c.loop-exit.exits) c.loop-exit.branches.items
    (popped c.loop-exit.exits c.in-Some.exit c.args.nodes.now _ c.loop-exit.end c.loop-exit.branches.items
    (sym c.in-Some.ensures.last) c.loop-exit.invariant)

pub loop-exit-smaller : goal.loop-exit-smaller
loop-exit-smaller c =
    let left = some_left c.args.nodes.now _ c.loop-exit.end c.in-Some.exit (drop 1 c.loop-exit.exits) c.loop-exit.branches.items
    (popped c.loop-exit.exits c.in-Some.exit c.args.nodes.now _ c.loop-exit.end c.loop-exit.branches.items
    (sym c.in-Some.ensures.last) c.loop-exit.invariant) in
    omega (arith, left)

pub loop-exit-preserved : goal.loop-exit-preserved
loop-exit-preserved c =
    let nodes = c.args.nodes.now in
    let so_far = popped c.loop-exit.exits c.in-Some.exit nodes _ c.loop-exit.end c.loop-exit.branches.items
    (sym c.in-Some.ensures.last) c.loop-exit.invariant in
    let left = some_left nodes _ c.loop-exit.end c.in-Some.exit (drop 1 c.loop-exit.exits) c.loop-exit.branches.items so_far in
    rw (c.in_ok-push_operands.ensures, c.in_ok-push-2.ensures.items, c.in-Some.ensures.rest, c.branch-branch.ensures)
    (one_found nodes (branches_of (tree_of nodes)) c.loop-exit.end _ c.in-Some.exit (drop 1 c.loop-exit.exits)
    c.loop-exit.branches.items c.index-nodes-end.result so_far (omega (arith, left)) c.index-nodes-end.is)

pub returns : goal.returns
returns c =
    let nodes = c.args.nodes.now in
    c.new.ensures ∙ c.reverse.ensures.items ∙ all_found nodes (branches_of (tree_of nodes)) c.loop-exit.end c.loop-exit.branches.items
    (none_waits c.loop-exit.exits nodes (branches_of (tree_of nodes)) c.loop-exit.end c.loop-exit.branches.items
    (λ e is. c.in_default.not-Some e (c.pop.ensures.last ∙ is)) c.loop-exit.invariant)
