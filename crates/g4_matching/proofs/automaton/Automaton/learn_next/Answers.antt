use Rattle.std.proofs.Common.{subst, sym, ◌∙◌}
use Rattle.g4_matching.specs.Automaton.{Has, HasEntries}
use Rattle.g4_matching.specs.Listing.{IsReady, listed}
use Rattle.g4_matching.proofs.Numbered.{has_listed, kept_list, same_lists}
use Rattle.g4_matching.proofs.automaton.Automaton.learn_next.Goals as goal

pub note_next-requires-clause-steps : goal.note_next-requires-clause-steps
note_next-requires-clause-steps c =
    let mid = c.make_next.new.self in
    let new = c.learn_beside.new.self in
    let made = c.in_ok-make_next.ensures.made in
    let learned : HasEntries new c.in-Some.number mid.listing.list.items = rw c.in-Some.is at c.in_ok-number.ensures.learned in
    record {
      list = made.list;
      next = listed mid.listing;
      before = kept_list mid new c.args.from made.list c.in_ok-number.ensures.listing c.in_ok-number.ensures.keeps made.stays;
      after = has_listed new mid.listing c.in-Some.number c.in_ok-number.ensures.listing learned;
      is_next = made.is_next;
    }

pub returns-in-Some-clause-next : goal.returns-in-Some-clause-next
returns-in-Some-clause-next c =
    let mid = c.make_next.new.self in
    let new = c.learn_beside.new.self in
    let made = c.in_ok-make_next.ensures.made in
    let learned : HasEntries new c.in-Some.number mid.listing.list.items = rw c.in-Some.is at c.in_ok-number.ensures.learned in
    let after : Has new c.in-Some.number (listed mid.listing) =
    has_listed new mid.listing c.in-Some.number c.in_ok-number.ensures.listing learned in
    record {
      list = made.list;
      next = listed mid.listing;
      before = made.before;
      after = same_lists new c.note_next.new.self c.in-Some.number (listed mid.listing) c.note_next.ensures.listing
          c.note_next.ensures.lists after;
      is_next = made.is_next;
    }

pub learn_alone-requires-clause-ready : goal.learn_alone-requires-clause-ready
learn_alone-requires-clause-ready c = subst IsReady (sym c.in_ok-number.ensures.listing) c.in_ok-make_next.ensures.ready

pub returns-clause-next : goal.returns-clause-next
returns-clause-next c =
    let mid = c.make_next.new.self in
    let made = c.in_ok-make_next.ensures.made in
    let same = c.in_ok-number.ensures.listing in
    record {
      list = made.list;
      next = listed mid.listing;
      before = made.before;
      after = has_listed c.learn_alone.new.self mid.listing c.in_ok-number-2.number (c.in_ok-number-2.ensures.listing ∙ same)
          (subst (λ m. HasEntries c.learn_alone.new.self c.in_ok-number-2.number m.list.items) same c.in_ok-number-2.ensures.learned);
      is_next = made.is_next;
    }
