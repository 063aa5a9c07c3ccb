use Rattle.std.proofs.Common.{rules, refl, sym, subst, ◌∙◌, ◌≡◌, [], length}
use Rattle.g4_closure.proofs.Closing.{none_left, taken_from_work, waiting_begins, waiting_ends, waiting_goes_on}
use Rattle.g4_closure.specs.Waiting.{IsWaiting}
use Rattle.g4_closure.proofs.closure.dive.Goals as goal

pub loop-steps-init : goal.loop-steps-init
loop-steps-init c = waiting_begins c.args.net.now c.args.set.now c.args.work.now.items c.requires.waiting

pub follow-requires-clause-waiting : goal.follow-requires-clause-waiting
follow-requires-clause-waiting c = (taken_from_work c.args.net.now c.args.set.now c.loop-steps.set c.loop-steps.work.items []
    c.pop.new.self.items c.in-Some.next c.in-Some.ensures.items c.loop-steps.invariant).known

pub follow-requires-clause-stacks : goal.follow-requires-clause-stacks
follow-requires-clause-stacks c = (taken_from_work c.args.net.now c.args.set.now c.loop-steps.set c.loop-steps.work.items []
    c.pop.new.self.items c.in-Some.next c.in-Some.ensures.items c.loop-steps.invariant).stacks

pub loop-steps-preserved : goal.loop-steps-preserved
loop-steps-preserved c = waiting_goes_on c.args.net.now c.args.set.now c.loop-steps.set c.follow.new.set [] c.pop.new.self.items
    c.follow.new.work.items c.in-Some.next
    (taken_from_work c.args.net.now c.args.set.now c.loop-steps.set c.loop-steps.work.items [] c.pop.new.self.items c.in-Some.next
    c.in-Some.ensures.items c.loop-steps.invariant) c.in_ok-follow.ensures

pub returns-clause-waiting : goal.returns-clause-waiting
returns-clause-waiting c = waiting_ends c.args.net.now c.args.set.now c.loop-steps.set [] c.loop-steps.work.items refl
    c.loop-steps.invariant

pub returns-clause-later : goal.returns-clause-later
returns-clause-later c = c.loop-steps.invariant.later

pub returns-then-steps-count-clause-waiting : goal.returns-then-steps-count-clause-waiting
returns-then-steps-count-clause-waiting c = waiting_ends c.args.net.now c.args.set.now c.loop-steps.set [] c.loop-steps.work.items
    refl c.loop-steps.invariant

pub returns-in_default-clause-waiting : goal.returns-in_default-clause-waiting
returns-in_default-clause-waiting c =
    let was : length c.loop-steps.work.items ≡ 0 = search rules in
    let is : length c.pop.new.self.items ≡ 0 = search rules in
    subst (IsWaiting c.args.net.now c.loop-steps.set) (none_left c.loop-steps.work.items was ∙ sym (none_left c.pop.new.self.items is))
    (waiting_ends c.args.net.now c.args.set.now c.loop-steps.set [] c.loop-steps.work.items refl c.loop-steps.invariant)
