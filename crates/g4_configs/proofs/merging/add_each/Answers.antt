use Rattle.std.proofs.Common.{rules, ◌<◌, length}
use Rattle.g4_configs.proofs.Adding.{keeps_then}
use Rattle.g4_configs.proofs.Merges.{known_at, merging_begins, merging_goes_on}
use Rattle.g4_configs.proofs.merging.add_each.Goals as goal

pub loop-group-init : goal.loop-group-init
loop-group-init c = merging_begins c.args.graph.now c.args.nodes.now.entries c.requires.nodes

pub add-requires-clause-node : goal.add-requires-clause-node
add-requires-clause-node c =
    let lt : c.loop-group.group-index < length c.args.groups.now = search rules in
    (c.loop-group.invariant.keeps _ (known_at c.args.graph.now c.args.groups.now c.loop-group.group-index
    (record { state = 0; alternative = 0; stacks = 0 }) c.requires.known lt)).0

pub loop-group-preserved : goal.loop-group-preserved
loop-group-preserved c =
    let lt : c.loop-group.group-index < length c.args.groups.now = search rules in
    merging_goes_on c.args.graph.now c.args.nodes.now.entries c.args.groups.now c.loop-group.group-index
    (record { state = 0; alternative = 0; stacks = 0 }) c.loop-group.graph c.loop-group.nodes.entries c.add.new.graph
    c.add.new.nodes.entries lt c.requires.known
    c.loop-group.invariant c.add.ensures.keeps c.add.ensures.nodes c.in_ok-add.ensures.members

pub returns-in_err-add-clause-keeps : goal.returns-in_err-add-clause-keeps
returns-in_err-add-clause-keeps c = keeps_then c.args.graph.now c.loop-group.graph c.add.new.graph c.loop-group.invariant.keeps
    c.add.ensures.keeps
