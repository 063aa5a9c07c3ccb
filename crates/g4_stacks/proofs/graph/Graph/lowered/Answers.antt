use Rattle.std.proofs.Common.{rules, ◌<◌, length, sym, subst, arith}
use Rattle.g4_stacks.specs.Lowering.{AreLowered}
use Rattle.g4_stacks.proofs.Below.{images_more, keeps_then}
use Rattle.g4_stacks.proofs.graph.Graph.lowered.Goals as goal

pub lowered_node-requires-clause-under : goal.lowered_node-requires-clause-under
lowered_node-requires-clause-under c = (c.loop-n.invariant.0 c.args.under c.requires.under).0

pub returns-in_err-image-clause-keeps : goal.returns-in_err-image-clause-keeps
returns-in_err-image-clause-keeps c = keeps_then c.args.self.now c.loop-n.self c.lowered_node.new.self c.loop-n.invariant.0
    c.lowered_node.ensures.keeps

pub returns-in_err-push-clause-keeps : goal.returns-in_err-push-clause-keeps
returns-in_err-push-clause-keeps c = keeps_then c.args.self.now c.loop-n.self c.lowered_node.new.self c.loop-n.invariant.0
    c.lowered_node.ensures.keeps

pub loop-n-preserved : goal.loop-n-preserved
loop-n-preserved c =
    let less : c.loop-n.n < length c.args.self.now = omega (arith, c.loop-n-test.true, c.requires.count) in (
      keeps_then c.args.self.now c.loop-n.self c.lowered_node.new.self c.loop-n.invariant.0 c.lowered_node.ensures.keeps,
      subst (AreLowered c.lowered_node.new.self c.args.under) (sym c.in_ok-push.ensures.items)
          (images_more c.loop-n.self c.lowered_node.new.self c.args.under c.loop-n.images.items c.loop-n.n c.in_ok-image.image
          c.lowered_node.ensures.keeps (c.loop-n.invariant.0 c.args.under c.requires.under).0 c.loop-n.invariant.1
          c.loop-n.invariant.2 (c.loop-n.invariant.0 c.loop-n.n less).0 c.in_ok-image.ensures.known c.in_ok-image.ensures.means),
      (search rules),
    )
