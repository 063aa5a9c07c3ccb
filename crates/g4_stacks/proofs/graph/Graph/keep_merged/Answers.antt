use Rattle.g4_stacks.proofs.Keys.{key_union, key_left, key_right}
use Rattle.g4_stacks.proofs.Memo.{memo_kept}
use Rattle.g4_stacks.proofs.graph.Graph.keep_merged.Goals as goal

pub invariant_of-self-2 : goal.invariant_of-self-2
invariant_of-self-2 c =
    let left = key_left c.args.self.now c.args.a c.args.b c.ordered.result.0 c.ordered.result.1 c.ordered.ensures c.requires.left
    c.requires.right in
    let right = key_right c.args.self.now c.args.a c.args.b c.ordered.result.0 c.ordered.result.1 c.ordered.ensures c.requires.left
    c.requires.right in
    let means = key_union c.args.self.now c.args.a c.args.b c.ordered.result.0 c.ordered.result.1 c.args.node c.ordered.ensures
    c.requires.means in
    record {
      canonical = c.self.invariant.canonical;
      memo = memo_kept c.self.inside.table c.args.self.now c.self.inside.merged.entries c.insert.new.self.entries c.ordered.result.0
          c.ordered.result.1 c.args.node c.self.view_is c.self.invariant.memo
          left right c.requires.known means c.in_ok-insert.ensures.updates.0;
      parts = c.self.invariant.parts;
    }
