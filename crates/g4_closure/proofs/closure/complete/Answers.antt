use Rattle.std.proofs.Common.{inr}
use Rattle.g4_configs.proofs.Adding.{keeps_then}
use Rattle.g4_closure.proofs.Closing.{all_sound, all_wait, closed_members, reached_kept}
use Rattle.g4_closure.proofs.Joining.{groups_known, some_kept}
use Rattle.g4_closure.proofs.closure.complete.Goals as goal

pub add_all-requires-clause-waiting : goal.add_all-requires-clause-waiting
add_all-requires-clause-waiting c = groups_known c.args.set.now c.in_ok-work.work.items c.in_ok-work.ensures

pub finish-requires-clause-within : goal.finish-requires-clause-within
finish-requires-clause-within c = λ d i. c.requires.within d
    ((some_kept c.args.set.now.graph c.add_all.new.set.graph c.args.starts.now c.in_ok-add_all.ensures.keeps c.requires.known d).1 i)

pub finish-requires-clause-sound : goal.finish-requires-clause-sound
finish-requires-clause-sound c = all_sound c.args.net.now c.args.set.now c.in_ok-work.work.items c.args.starts.now c.add_all.new.set
    c.add_all.new.work.items c.requires.known c.requires.sound c.in_ok-add_all.ensures

pub finish-requires-clause-waiting : goal.finish-requires-clause-waiting
finish-requires-clause-waiting c = all_wait c.args.net.now c.args.set.now c.in_ok-work.work.items c.args.starts.now c.add_all.new.set
    c.add_all.new.work.items c.in_ok-work.ensures c.in_ok-add_all.ensures

pub returns-clause-keeps : goal.returns-clause-keeps
returns-clause-keeps c = keeps_then c.args.set.now.graph c.add_all.new.set.graph c.finish.new.set.graph c.in_ok-add_all.ensures.keeps
    c.in_ok-finish.ensures.keeps

pub returns-clause-members : goal.returns-clause-members
returns-clause-members c = closed_members c.args.net.now c.args.set.now.graph c.args.starts.now c.finish.new.set
    c.in_ok-finish.ensures.closed
    (λ d s. c.in_ok-finish.ensures.has d ((c.in_ok-add_all.ensures.members d).1 (inr s)))
    (λ d h. (reached_kept c.args.net.now c.args.set.now.graph c.add_all.new.set.graph c.args.starts.now c.in_ok-add_all.ensures.keeps
    c.requires.known d).1 (c.in_ok-finish.ensures.sound d h))
