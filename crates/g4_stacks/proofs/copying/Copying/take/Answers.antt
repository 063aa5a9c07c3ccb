use Rattle.std.proofs.Common.{rules, ◌≡◌, ◌∷◌, ◌++◌, [], Some, None, length, slice_get}
use Rattle.std.specs.Ordering.{nat_cmp}
use Rattle.std.specs.BTreeMap.{get}
use Rattle.g4_stacks.specs.declared.copying.Frame.{Frame}
use Rattle.g4_stacks.specs.Graph.{Content, IsNode}
use Rattle.g4_stacks.specs.Merge.{tops_of}
use Rattle.g4_stacks.proofs.Walking.{IsDone, begun, known_top, down, node_in, plain_at, finished, taken, up, IsRead}
use Rattle.g4_stacks.proofs.Sizes.{less_known, less_down, less_up}
use Rattle.g4_stacks.proofs.copying.Copying.take.Goals as goal

pub walk-init : goal.walk-init
walk-init c = begun c.args.source.now c.is_canonical.ensures c.args.root c.args.self.now.graph _ _ c.args.self.now.known
    c.requires.inside c.is_canonical-2.ensures c.requires.known c.new-waiting.ensures.items c.new-tops.ensures.items

pub next_top-requires : goal.next_top-requires
next_top-requires c = node_in c.args.source.now c.args.root c.args.self.now.graph c.walk.waiting.items c.walk.node c.walk.tops.items
    c.walk.self.graph c.walk.self.known c.walk.invariant

pub walk-smaller-in-Some-found : goal.walk-smaller-in-Some-found
walk-smaller-in-Some-found c =
    let next : slice_get (tops_of c.args.source.now c.walk.node) (length c.walk.tops.items)
    ≡ Some (c.in-Some.state, c.in-Some.below) = search rules in
    less_known c.args.source.now c.is_canonical.ensures c.walk.waiting.items c.walk.node c.in-Some.state c.in-Some.below
    c.walk.tops.items c.push.new.self.items c.in-Some-found.result next c.in_ok-push.ensures.items

pub walk-preserved-in-Some-found : goal.walk-preserved-in-Some-found
walk-preserved-in-Some-found c =
    let next : slice_get (tops_of c.args.source.now c.walk.node) (length c.walk.tops.items)
    ≡ Some (c.in-Some.state, c.in-Some.below) = search rules in
    let found : get nat_cmp c.walk.self.known c.in-Some.below ≡ Some c.in-Some-found.result = search rules in
    known_top c.args.source.now c.is_canonical.ensures c.args.root c.args.self.now.graph c.walk.waiting.items c.walk.node
    c.walk.tops.items c.push.new.self.items c.walk.self.graph c.walk.self.known
    c.in-Some.state c.in-Some.below c.in-Some-found.result c.walk.invariant next found c.in_ok-push.ensures.items

pub walk-smaller-in-Some : goal.walk-smaller-in-Some
walk-smaller-in-Some c =
    let f : Frame = record { node = c.walk.node; tops = c.walk.tops; state = c.in-Some.state } in
    let next : slice_get (tops_of c.args.source.now f.node) (length f.tops.items) ≡ Some (f.state, c.in-Some.below) = search rules in
    less_down c.args.source.now c.is_canonical.ensures c.walk.waiting.items c.push-in-Some.new.self.items f c.in-Some.below
    c.new-tops-in-Some.result.items next c.in_ok-push-2.ensures.items c.new-tops-in-Some.ensures.items

pub walk-preserved-in-Some : goal.walk-preserved-in-Some
walk-preserved-in-Some c =
    let f : Frame = record { node = c.walk.node; tops = c.walk.tops; state = c.in-Some.state } in
    let next : slice_get (tops_of c.args.source.now f.node) (length f.tops.items) ≡ Some (f.state, c.in-Some.below) = search rules in
    down c.args.source.now c.is_canonical.ensures c.args.root c.args.self.now.graph c.walk.waiting.items c.push-in-Some.new.self.items
    f c.walk.self.graph c.walk.self.known c.in-Some.below c.new-tops-in-Some.result.items
    c.walk.invariant next c.in_ok-push-2.ensures.items c.new-tops-in-Some.ensures.items

pub bounds-contents-node : goal.bounds-contents-node
bounds-contents-node c =
    let inside : IsNode c.args.source.now c.walk.node =
    node_in c.args.source.now c.args.root c.args.self.now.graph c.walk.waiting.items c.walk.node c.walk.tops.items
    c.walk.self.graph c.walk.self.known c.walk.invariant in
    search rules

pub intern-requires : goal.intern-requires
intern-requires c =
    let d : Content = record { end = c.held.inside.end; wild = c.held.inside.wild; tops = c.held.inside.tops.items } in
    let read : IsRead c.args.source.now c.walk.node d =
    record {
      contents = c.contents.result.now;
      item = c.index-contents-node.result;
      whole = c.contents.ensures;
      here = c.index-contents-node.is;
      view = c.held.view_is;
    } in
    let end : slice_get (tops_of c.args.source.now c.walk.node) (length c.walk.tops.items) ≡ None = search rules in
    plain_at c.args.source.now c.is_canonical.ensures c.args.root c.args.self.now.graph c.walk.waiting.items c.walk.node
    c.walk.tops.items c.walk.self.graph c.walk.self.known d c.walk.invariant end read

pub returns-in_default-pop-clause-known : goal.returns-in_default-pop-clause-known
returns-in_default-pop-clause-known c =
    let d : Content = record { end = c.held.inside.end; wild = c.held.inside.wild; tops = c.held.inside.tops.items } in
    let read : IsRead c.args.source.now c.walk.node d =
    record {
      contents = c.contents.result.now;
      item = c.index-contents-node.result;
      whole = c.contents.ensures;
      here = c.index-contents-node.is;
      view = c.held.view_is;
    } in
    let end : slice_get (tops_of c.args.source.now c.walk.node) (length c.walk.tops.items) ≡ None = search rules in
    let done : IsDone c.args.source.now c.is_canonical.ensures c.args.root c.args.self.now.graph c.walk.waiting.items c.walk.node
    c.intern.new.self c.insert.new.self c.in_ok-result.result =
    finished c.args.source.now c.is_canonical.ensures c.args.root c.args.self.now.graph c.walk.waiting.items c.walk.node
    c.walk.tops.items c.walk.self.graph c.intern.new.self c.walk.self.known c.insert.new.self d c.in_ok-result.result
    c.walk.invariant end read c.in_ok-result.ensures.added c.in_ok-result.ensures.holds c.in_ok-insert.ensures.updates.0 in
    done.sound

pub returns-in_default-pop-clause-takes : goal.returns-in_default-pop-clause-takes
returns-in_default-pop-clause-takes c =
    let d : Content = record { end = c.held.inside.end; wild = c.held.inside.wild; tops = c.held.inside.tops.items } in
    let read : IsRead c.args.source.now c.walk.node d =
    record {
      contents = c.contents.result.now;
      item = c.index-contents-node.result;
      whole = c.contents.ensures;
      here = c.index-contents-node.is;
      view = c.held.view_is;
    } in
    let end : slice_get (tops_of c.args.source.now c.walk.node) (length c.walk.tops.items) ≡ None = search rules in
    let done : IsDone c.args.source.now c.is_canonical.ensures c.args.root c.args.self.now.graph c.walk.waiting.items c.walk.node
    c.intern.new.self c.insert.new.self c.in_ok-result.result =
    finished c.args.source.now c.is_canonical.ensures c.args.root c.args.self.now.graph c.walk.waiting.items c.walk.node
    c.walk.tops.items c.walk.self.graph c.intern.new.self c.walk.self.known c.insert.new.self d c.in_ok-result.result
    c.walk.invariant end read c.in_ok-result.ensures.added c.in_ok-result.ensures.holds c.in_ok-insert.ensures.updates.0 in
    let none : c.walk.waiting.items ≡ [] = search rules in
    taken c.args.source.now c.is_canonical.ensures c.args.root c.args.self.now.graph c.walk.waiting.items c.walk.node
    c.intern.new.self c.insert.new.self c.in_ok-result.result done none

pub walk-smaller : goal.walk-smaller
walk-smaller c =
    let parts : c.walk.waiting.items ≡ c.pop.new.self.items ++ c.in-Some-pop.frame ∷ [] = search rules in
    less_up c.args.source.now c.is_canonical.ensures c.walk.waiting.items c.pop.new.self.items c.in-Some-pop.frame c.walk.node
    c.in_ok-result.result c.walk.tops.items c.push-in-walk.new.self.items parts c.in_ok-push-3.ensures.items

pub walk-preserved : goal.walk-preserved
walk-preserved c =
    let d : Content = record { end = c.held.inside.end; wild = c.held.inside.wild; tops = c.held.inside.tops.items } in
    let read : IsRead c.args.source.now c.walk.node d =
    record {
      contents = c.contents.result.now;
      item = c.index-contents-node.result;
      whole = c.contents.ensures;
      here = c.index-contents-node.is;
      view = c.held.view_is;
    } in
    let end : slice_get (tops_of c.args.source.now c.walk.node) (length c.walk.tops.items) ≡ None = search rules in
    let done : IsDone c.args.source.now c.is_canonical.ensures c.args.root c.args.self.now.graph c.walk.waiting.items c.walk.node
    c.intern.new.self c.insert.new.self c.in_ok-result.result =
    finished c.args.source.now c.is_canonical.ensures c.args.root c.args.self.now.graph c.walk.waiting.items c.walk.node
    c.walk.tops.items c.walk.self.graph c.intern.new.self c.walk.self.known c.insert.new.self d c.in_ok-result.result
    c.walk.invariant end read c.in_ok-result.ensures.added c.in_ok-result.ensures.holds c.in_ok-insert.ensures.updates.0 in
    let parts : c.walk.waiting.items ≡ c.pop.new.self.items ++ c.in-Some-pop.frame ∷ [] = search rules in
    up c.args.source.now c.is_canonical.ensures c.args.root c.args.self.now.graph c.walk.waiting.items c.pop.new.self.items
    c.in-Some-pop.frame c.walk.node c.intern.new.self c.insert.new.self c.in_ok-result.result c.push-in-walk.new.self.items
    done parts c.in_ok-push-3.ensures.items
