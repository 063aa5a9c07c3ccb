use Rattle.std.proofs.Common.{◌+◌, ◌<◌, List, true, inl, inr, length, sym, subst}
use Rattle.std.proofs.lemmas.List.{get_or_read}
use Rattle.g4_ordered.specs.Configurations.{LexerConfig}
use Rattle.g4_matching.specs.Automaton.{starts_in}
use Rattle.g4_matching.specs.Listing.{IsNext, returns_of}
use Rattle.g4_matching.specs.Matcher.{IsFound, best_after}
use Rattle.g4_matching.proofs.Matched.{SoFar, begins, goes_on, best_on, whole, not_last, whole_read, not_empty_by}
use Rattle.g4_matching.proofs.Numbered.{one_under, tells_at, empty_under, under_within}
use Rattle.g4_matching.proofs.automaton.Automaton.longest_match.Goals as goal

pub loop-at-init : goal.loop-at-init
loop-at-init c =
    let b = c.in_ok-list.ensures.first in
    let some : 0 < length c.args.text.now = not_empty_by c.is_empty.result (length c.args.text.now) c.if-is_empty.false
    c.is_empty.ensures in
    record {
      within = some;
      sound = c.in_ok-list.ensures.sound;
      listed = (
        b.list,
        b.has,
        begins c.args.modes.now.net.now (starts_in c.args.modes.now.starts.now c.args.mode) c.args.text.now _
            b.list (not_last 0 c.args.text.now some) b.is_first,
      );
    }

pub is_empty-requires-in-loop-at : goal.is_empty-requires-in-loop-at
is_empty-requires-in-loop-at c = under_within (returns_of c.loop-at.self.listing) c.loop-at.self.lists.items c.loop-at.list
    c.loop-at.invariant.listed.0 c.loop-at.invariant.listed.1

pub returns-then-is_empty-2-clause-found : goal.returns-then-is_empty-2-clause-found
returns-then-is_empty-2-clause-found c =
    let i = c.loop-at.invariant.listed in
    let empty = empty_under (returns_of c.loop-at.self.listing) c.loop-at.self.lists.items c.loop-at.list i.0 i.1
    (c.is_empty-in-loop-at.ensures i.1.0 i.1.1 c.if-is_empty-2.true) in
    whole c.args.modes.now.net.now (starts_in c.args.modes.now.starts.now c.args.mode) c.args.text.now c.loop-at.at i.0 c.loop-at.best
    (inr empty) i.2

pub after-requires-clause-within : goal.after-requires-clause-within
after-requires-clause-within c = under_within (returns_of c.loop-at.self.listing) c.loop-at.self.lists.items c.loop-at.list
    c.loop-at.invariant.listed.0 c.loop-at.invariant.listed.1

pub end_of-requires : goal.end_of-requires
end_of-requires c = let s = c.in_ok-list-2.ensures.next in
    under_within (returns_of c.after.new.self.listing) c.after.new.self.lists.items c.in_ok-list-2.list s.next s.after

pub loop-at-preserved : goal.loop-at-preserved
loop-at-preserved c =
    let net = c.args.modes.now.net.now in
    let starts = starts_in c.args.modes.now.starts.now c.args.mode in
    let text = c.args.text.now in
    let at = c.loop-at.at in
    let a = c.loop-at.self in
    let new = c.after.new.self in
    let i = c.loop-at.invariant.listed in
    let s = c.in_ok-list-2.ensures.next in
    let same = one_under (returns_of a.listing) a.lists.items c.loop-at.list s.list i.0 s.before i.1 in
    let is_next = subst (λ (l : List LexerConfig). IsNext net _ c.index-text-at.result l s.next) same s.is_next in
    let after = goes_on net starts text at c.index-text-at.result _ i.0 s.next c.loop-at.best c.loop-at.invariant.within
    (get_or_read text at c.index-text-at.result c.loop-at.invariant.within c.index-text-at.is 0)
    (not_last (at + 1) text c.loop-at-test.true) is_next i.2 in
    let tells = tells_at net c.args.modes.now.starts.now new.classes (returns_of new.listing) new.lists.items new.next.items
    new.firsts.items c.in_ok-list-2.list s.next c.end_of.result c.in_ok-list-2.ensures.sound s.after
    (c.end_of.ensures s.after.0 s.after.1) in
    record {
      within = c.loop-at-test.true;
      sound = c.in_ok-list-2.ensures.sound;
      listed = (
        s.next,
        s.after,
        subst (SoFar net starts text (at + 1) s.next) (sym c.best_after-best.ensures)
            (best_on net starts text at i.0 s.next c.loop-at.best c.end_of.result after tells i.2),
      );
    }

pub last_end-requires-clause-within : goal.last_end-requires-clause-within
last_end-requires-clause-within c = under_within (returns_of c.loop-at.self.listing) c.loop-at.self.lists.items c.loop-at.list
    c.loop-at.invariant.listed.0 c.loop-at.invariant.listed.1

pub returns-clause-found : goal.returns-clause-found
returns-clause-found c =
    let net = c.args.modes.now.net.now in
    let starts = starts_in c.args.modes.now.starts.now c.args.mode in
    let text = c.args.text.now in
    let at = c.loop-at.at in
    let a = c.loop-at.self in
    let i = c.loop-at.invariant.listed in
    let s = c.in_ok-end.ensures.end in
    let same = one_under (returns_of a.listing) a.lists.items c.loop-at.list s.list i.0 s.before i.1 in
    let is_next = subst (λ (l : List LexerConfig). IsNext net true c.index-text-at-2.result l s.next) same s.is_next in
    let after = goes_on net starts text at c.index-text-at-2.result true i.0 s.next c.loop-at.best c.loop-at.invariant.within
    (get_or_read text at c.index-text-at-2.result c.loop-at.invariant.within c.index-text-at-2.is 0)
    (whole_read (at + 1) text c.loop-at-test.false) is_next i.2 in
    let best = best_on net starts text at i.0 s.next c.loop-at.best c.in_ok-end.end after s.tells i.2 in
    subst (IsFound net starts text) (sym c.best_after.ensures)
    (whole net starts text (at + 1) s.next (best_after c.loop-at.best (at + 1) c.in_ok-end.end) (inl c.loop-at-test.false) best)
