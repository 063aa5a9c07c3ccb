use Rattle.std.proofs.Common.{rules, ◌≡◌, [], length}
use Rattle.g4_stacks.specs.Graph.{Keeps}
use Rattle.g4_configs.proofs.Adding.{keeps_then}
use Rattle.g4_closure.proofs.Closing.{closing_begins, closing_ends, closing_first, closed_members, none_left, reached_kept}
use Rattle.g4_closure.proofs.Joining.{known_kept, some_kept}
use Rattle.g4_closure.specs.Steps.{ReachedFrom}
use Rattle.g4_configs.specs.Groups.{InSome}
use Rattle.g4_closure.proofs.closure.reach.Goals as goal

pub dive-requires-clause-waiting : goal.dive-requires-clause-waiting
dive-requires-clause-waiting c =
    let none : c.in_ok-work.work.items ≡ [] = search rules in
    (closing_begins c.args.net.now c.args.starts.now c.args.set.now c.in_ok-work.work.items c.add_all.new.set c.add_all.new.work.items
    c.requires.empty none c.in_ok-add_all.ensures).waiting

pub returns-then-is_empty-clause-keeps : goal.returns-then-is_empty-clause-keeps
returns-then-is_empty-clause-keeps c = keeps_then c.args.set.now.graph c.add_all.new.set.graph c.dive.new.set.graph
    c.in_ok-add_all.ensures.keeps c.in_ok-dive.ensures.later.keeps

pub returns-then-is_empty-clause-members : goal.returns-then-is_empty-clause-members
returns-then-is_empty-clause-members c =
    let none : c.in_ok-work.work.items ≡ [] = search rules in
    let empty : length c.dive.new.work.items ≡ 0 = search rules in
    let i = closing_first c.args.net.now c.args.starts.now c.args.set.now c.add_all.new.set c.dive.new.set c.in_ok-work.work.items
    c.add_all.new.work.items c.dive.new.work.items c.requires.empty none c.in_ok-add_all.ensures c.in_ok-dive.ensures.later
    c.in_ok-dive.ensures.waiting in
    closed_members c.args.net.now c.args.set.now.graph c.args.starts.now c.dive.new.set
    (closing_ends c.args.net.now (ReachedFrom c.args.net.now (InSome c.args.set.now.graph c.args.starts.now))
    (InSome c.args.set.now.graph c.args.starts.now) c.args.set.now.graph c.dive.new.set c.dive.new.work.items
    (none_left c.dive.new.work.items empty) i) i.begun i.sound

pub fill-requires-clause-known : goal.fill-requires-clause-known
fill-requires-clause-known c =
    let kept : Keeps c.args.set.now.graph c.clear.new.self.graph =
    keeps_then c.args.set.now.graph c.dive.new.set.graph c.clear.new.self.graph
    (keeps_then c.args.set.now.graph c.add_all.new.set.graph c.dive.new.set.graph
    c.in_ok-add_all.ensures.keeps c.in_ok-dive.ensures.later.keeps) c.clear.ensures.keeps in
    known_kept c.args.set.now.graph c.clear.new.self.graph c.args.starts.now kept c.requires.known

pub complete-requires-clause-known : goal.complete-requires-clause-known
complete-requires-clause-known c =
    let kept : Keeps c.args.set.now.graph c.clear.new.self.graph =
    keeps_then c.args.set.now.graph c.dive.new.set.graph c.clear.new.self.graph
    (keeps_then c.args.set.now.graph c.add_all.new.set.graph c.dive.new.set.graph
    c.in_ok-add_all.ensures.keeps c.in_ok-dive.ensures.later.keeps) c.clear.ensures.keeps in
    known_kept c.args.set.now.graph c.fill.new.set.graph c.args.starts.now
    (keeps_then c.args.set.now.graph c.clear.new.self.graph c.fill.new.set.graph kept c.in_ok-fill.ensures.keeps) c.requires.known

pub complete-requires-clause-within : goal.complete-requires-clause-within
complete-requires-clause-within c =
    let kept : Keeps c.args.set.now.graph c.clear.new.self.graph =
    keeps_then c.args.set.now.graph c.dive.new.set.graph c.clear.new.self.graph
    (keeps_then c.args.set.now.graph c.add_all.new.set.graph c.dive.new.set.graph
    c.in_ok-add_all.ensures.keeps c.in_ok-dive.ensures.later.keeps) c.clear.ensures.keeps in
    λ d i. c.requires.within d ((some_kept c.args.set.now.graph c.fill.new.set.graph c.args.starts.now
    (keeps_then c.args.set.now.graph c.clear.new.self.graph c.fill.new.set.graph kept c.in_ok-fill.ensures.keeps)
    c.requires.known d).1 i)

pub complete-requires-clause-sound : goal.complete-requires-clause-sound
complete-requires-clause-sound c =
    let kept : Keeps c.args.set.now.graph c.clear.new.self.graph =
    keeps_then c.args.set.now.graph c.dive.new.set.graph c.clear.new.self.graph
    (keeps_then c.args.set.now.graph c.add_all.new.set.graph c.dive.new.set.graph
    c.in_ok-add_all.ensures.keeps c.in_ok-dive.ensures.later.keeps) c.clear.ensures.keeps in
    λ d h. (reached_kept c.args.net.now c.clear.new.self.graph c.fill.new.set.graph c.args.starts.now c.in_ok-fill.ensures.keeps
    (known_kept c.args.set.now.graph c.clear.new.self.graph c.args.starts.now kept c.requires.known) d).0 (c.in_ok-fill.ensures.sound d h)

pub returns-clause-keeps : goal.returns-clause-keeps
returns-clause-keeps c =
    let kept : Keeps c.args.set.now.graph c.clear.new.self.graph =
    keeps_then c.args.set.now.graph c.dive.new.set.graph c.clear.new.self.graph
    (keeps_then c.args.set.now.graph c.add_all.new.set.graph c.dive.new.set.graph
    c.in_ok-add_all.ensures.keeps c.in_ok-dive.ensures.later.keeps) c.clear.ensures.keeps in
    keeps_then c.args.set.now.graph c.fill.new.set.graph c.complete.new.set.graph
    (keeps_then c.args.set.now.graph c.clear.new.self.graph c.fill.new.set.graph kept c.in_ok-fill.ensures.keeps)
    c.in_ok-complete.ensures.keeps

pub returns-clause-members : goal.returns-clause-members
returns-clause-members c =
    let kept : Keeps c.args.set.now.graph c.clear.new.self.graph =
    keeps_then c.args.set.now.graph c.dive.new.set.graph c.clear.new.self.graph
    (keeps_then c.args.set.now.graph c.add_all.new.set.graph c.dive.new.set.graph
    c.in_ok-add_all.ensures.keeps c.in_ok-dive.ensures.later.keeps) c.clear.ensures.keeps in
    λ d.
    let back = reached_kept c.args.net.now c.args.set.now.graph c.fill.new.set.graph c.args.starts.now
    (keeps_then c.args.set.now.graph c.clear.new.self.graph c.fill.new.set.graph kept c.in_ok-fill.ensures.keeps) c.requires.known d in
    ((λ h. back.1 ((c.in_ok-complete.ensures.members d).0 h)), (λ r. (c.in_ok-complete.ensures.members d).1 (back.0 r)))
