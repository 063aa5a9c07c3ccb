use Rattle.std.proofs.Common.{rules, ◌≡◌, ◌<◌, length, subst, sym}
use Rattle.g4_stacks.specs.Graph.{IsNode}
use Rattle.g4_configs.specs.declared.group.Group.{Group}
use Rattle.g4_closure.specs.Returns.{AreFollowed}
use Rattle.g4_closure.proofs.Joining.{known_at}
use Rattle.g4_closure.proofs.Returned.{reached_first, reached_next}
use Rattle.g4_closure.proofs.returns.with_returns.Goals as goal

pub loop-next-init : goal.loop-next-init
loop-next-init c =
    let same : c.in_ok-found.found.items ≡ c.args.starts.now = search rules in
    (c.requires.ends, reached_first c.args.net.now c.args.set.now.graph c.args.starts.now c.in_ok-found.found.items same c.requires.known)

pub explore-requires : goal.explore-requires
explore-requires c = c.loop-next.invariant.0

pub push_returns-requires-clause-stacks : goal.push_returns-requires-clause-stacks
push_returns-requires-clause-stacks c =
    let less : c.loop-next.next < length c.loop-next.found.items = search rules in
    subst (λ (x : Group). IsNode c.args.set.now.graph x.stacks) (sym c.index-group.ensures)
    (known_at c.args.set.now.graph c.loop-next.found.items c.loop-next.next c.index-group.result.now c.loop-next.invariant.1.known less)

pub push_returns-requires-clause-known : goal.push_returns-requires-clause-known
push_returns-requires-clause-known c = c.loop-next.invariant.1.known

pub loop-next-preserved : goal.loop-next-preserved
loop-next-preserved c =
    let less : c.loop-next.next < length c.loop-next.found.items = search rules in (
      c.explore.ensures,
      reached_next c.args.net.now c.args.set.now c.args.starts.now c.loop-next.found.items c.push_returns.new.found.items
          c.loop-next.next c.index-group.result.now less
          (subst (λ (x : Group). AreFollowed c.args.net.now c.args.set.now x c.loop-next.found.items c.push_returns.new.found.items)
          c.index-group.ensures c.in_ok-push_returns.ensures) c.loop-next.invariant.1,
    )
