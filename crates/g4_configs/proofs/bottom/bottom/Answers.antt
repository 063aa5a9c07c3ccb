use Rattle.std.proofs.Common.{rules, ◌<◌, length}
use Rattle.g4_configs.proofs.Adding.{keeps_then}
use Rattle.g4_configs.proofs.OneStack.{one_more}
use Rattle.g4_configs.proofs.bottom.bottom.Goals as goal

pub returns-in_err-node-clause-keeps : goal.returns-in_err-node-clause-keeps
returns-in_err-node-clause-keeps c = keeps_then c.args.graph.now c.loop-state.graph c.push.new.self c.loop-state.invariant.keeps
    c.in_err-node.ensures.keeps

pub loop-state-preserved : goal.loop-state-preserved
loop-state-preserved c =
    let lt : c.loop-state.state-index < length c.args.returns.now = search rules in
    one_more c.args.graph.now c.loop-state.graph c.push.new.self c.loop-state.node c.in_ok-node.node c.args.returns.now
    c.loop-state.state-index c.args.wild lt c.loop-state.invariant c.in_ok-node.ensures.keeps c.in_ok-node.ensures.known
    c.in_ok-node.ensures.means
