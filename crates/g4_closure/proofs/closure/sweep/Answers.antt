use Rattle.std.proofs.Common.{rules, ◌≡◌, length}
use Rattle.g4_closure.proofs.Closing.{none_left, round_begins, round_spent, spending_goes_on, taken_from_aside, waiting_ends, waiting_goes_on}
use Rattle.g4_closure.proofs.closure.sweep.Goals as goal

pub loop-next-init : goal.loop-next-init
loop-next-init c = record {
  waiting = round_begins c.args.net.now c.args.set.now c.merged.new.self c.args.work.now.items c.in_ok-round.round.items
      c.clear.new.self.items c.requires.waiting c.merged.ensures.keeps c.merged.ensures.same c.in_ok-round.ensures.parts
      (rw c.as_slice.ensures.value at c.in_ok-round.ensures.means) (search rules);
  spent = round_spent c.args.net.now c.args.set.now c.merged.new.self c.args.work.now.items c.in_ok-round.round.items
      c.clear.new.self.items c.requires.waiting c.merged.ensures.keeps c.merged.ensures.same c.in_ok-round.ensures.parts
      (rw c.as_slice.ensures.value at c.in_ok-round.ensures.means) (search rules);
}

pub follow-requires-clause-waiting : goal.follow-requires-clause-waiting
follow-requires-clause-waiting c = c.loop-next.invariant.waiting.known

pub follow-requires-clause-stacks : goal.follow-requires-clause-stacks
follow-requires-clause-stacks c = (taken_from_aside c.args.net.now c.args.set.now c.loop-next.set c.loop-next.round.items
    c.loop-next.work.items c.pop.new.self.items c.in-Some.next c.in-Some.ensures.items c.loop-next.invariant.waiting).stacks

pub loop-next-preserved : goal.loop-next-preserved
loop-next-preserved c =
    let taken = taken_from_aside c.args.net.now c.args.set.now c.loop-next.set c.loop-next.round.items c.loop-next.work.items
    c.pop.new.self.items c.in-Some.next c.in-Some.ensures.items c.loop-next.invariant.waiting in
    record {
      waiting = waiting_goes_on c.args.net.now c.args.set.now c.loop-next.set c.follow.new.set c.pop.new.self.items
          c.loop-next.work.items c.follow.new.work.items c.in-Some.next taken c.in_ok-follow.ensures;
      spent = spending_goes_on c.args.net.now c.args.set.now c.loop-next.set c.follow.new.set c.pop.new.self.items
          c.loop-next.work.items c.follow.new.work.items c.in-Some.next taken c.in_ok-follow.ensures c.loop-next.invariant.spent;
    }

pub returns-clause-waiting : goal.returns-clause-waiting
returns-clause-waiting c =
    let none : length c.loop-next.round.items ≡ 0 = search rules in
    waiting_ends c.args.net.now c.args.set.now c.loop-next.set c.loop-next.round.items c.loop-next.work.items
    (none_left c.loop-next.round.items none) c.loop-next.invariant.waiting

pub returns-clause-later : goal.returns-clause-later
returns-clause-later c = c.loop-next.invariant.waiting.later

pub returns-clause-spent : goal.returns-clause-spent
returns-clause-spent c = c.loop-next.invariant.spent
