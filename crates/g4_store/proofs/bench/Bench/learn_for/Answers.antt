use Rattle.std.proofs.Common.{◌≡◌, [], ◌++◌, sym, ap, ◌∙◌, subst}
use Rattle.g4_store.specs.declared.view.View.{View}
use Rattle.g4_store.specs.Numbers.{Among, has, union}
use Rattle.g4_store.specs.Views.{book_view, no_looks, hosting, count_of}
use Rattle.g4_store.specs.Paths.{Sent, HasKnownRow, IsKnownRow, cells_of, first_facts}
use Rattle.g4_store.proofs.Goings.{begins_more, guest_row, learned_by, fills, sent_pass, sent_rows, sent_taught}
use Rattle.g4_store.proofs.bench.Bench.learn_for.Goals as goal

pub follow-full-requires-clause-guest : goal.follow-full-requires-clause-guest
follow-full-requires-clause-guest g c =
    let h : c.check.new.self ≡ hosting c.args.self.now c.args.guest.me.0 = c.check.ensures.same ∙ c.host.ensures in
    let r = c.requires in (
      ap (λ (v : View _). v.loose) h ∙ ap (λ (v : View _). v.loose) r.idle,
      (
        r.guest.3.0,
        ap (λ (v : View _). has r.guest.3.0 v.holds) h
            ∙ ap (λ (v : View _). has r.guest.3.0 (union v.holds c.args.guest.me.0.holds)) r.idle ∙ r.guest.3.1,
      ),
    )

pub follow-full-requires-clause-path : goal.follow-full-requires-clause-path
follow-full-requires-clause-path g c =
    let (x, begins, on) = c.requires.path in (
      x,
      begins_more g.A.Automaton.starts g.B.Home.plan (IsKnownRow c.args.guest.me.0) (HasKnownRow c.check.new.self)
          (guest_row c.args.self.now c.args.guest.me.0 c.host.new.self c.check.new.self c.requires.idle c.host.ensures c.check.ensures.same
          c.check.ensures.known) c.args.origin x begins,
      on,
    )

pub send-guest-requires : goal.send-guest-requires
send-guest-requires g c =
    let (x, begins, on) = c.requires.path in
    let there = begins_more g.A.Automaton.starts g.B.Home.plan (IsKnownRow c.args.guest.me.0) (HasKnownRow c.check.new.self)
    (guest_row c.args.self.now c.args.guest.me.0 c.host.new.self c.check.new.self c.requires.idle c.host.ensures c.check.ensures.same
    c.check.ensures.known) c.args.origin x begins in
    ap (λ (v : View _). v.loose) c.check-2.ensures.same ∙ (c.follow-full.ensures x there).loose

pub returns-clause-rows : goal.returns-clause-rows
returns-clause-rows g c =
    let k = c.check-2.ensures in
    sent_rows g.B.Home.plan.rows c.follow-full.result c.follow-full.new.self c.send-guest.result.me.0
    (subst (λ (v : View _). Sent c.follow-full.result v c.send-guest.result.me.0) k.same c.send-guest.ensures.guest) k.known k.room

pub returns-clause-idle : goal.returns-clause-idle
returns-clause-idle g c =
    let e = c.send-guest.ensures.bench in
    let (x, begins, on) = c.requires.path in
    let there = begins_more g.A.Automaton.starts g.B.Home.plan (IsKnownRow c.args.guest.me.0) (HasKnownRow c.check.new.self)
    (guest_row c.args.self.now c.args.guest.me.0 c.host.new.self c.check.new.self c.requires.idle c.host.ensures c.check.ensures.same
    c.check.ensures.known) c.args.origin x begins in
    let tight = ap (λ (v : View _). v.loose) c.check-2.ensures.same ∙ (c.follow-full.ensures x there).loose in
    let rows = sym (ap (λ (v : View _). v.rows) e) in
    let facts = sym (ap (λ (v : View _). v.facts) e) in
    e ∙ (λ i. book_view (rows i) (tight i) (facts i) [] [] [] [] 0 no_looks)

pub returns-clause-seat : goal.returns-clause-seat
returns-clause-seat g c =
    let e = c.send-guest.ensures in
    (e.seat.0, e.seat.1, sent_pass c.follow-full.result c.check-2.new.self c.send-guest.result.me.0 e.guest)

pub returns-clause-learned : goal.returns-clause-learned
returns-clause-learned g c = λ x begins.
    let there = begins_more g.A.Automaton.starts g.B.Home.plan (IsKnownRow c.args.guest.me.0) (HasKnownRow c.check.new.self)
    (guest_row c.args.self.now c.args.guest.me.0 c.host.new.self c.check.new.self c.requires.idle c.host.ensures c.check.ensures.same
    c.check.ensures.known) c.args.origin x begins in
    let facts = first_facts c.args.origin x ++ cells_of x c.args.looked.items in
    let h : c.check.new.self ≡ hosting c.args.self.now c.args.guest.me.0 = c.check.ensures.same ∙ c.host.ensures in
    let idle = c.requires.idle in
    let k = c.check-2.ensures in
    let old = c.args.guest.me.0 in
    let seen = ap (λ (v : View _). v.seen) h ∙ ap (λ (v : View _). v.seen ++ old.seen) idle in
    learned_by g.B.Home.plan.rows facts old c.check.new.self c.follow-full.new.self c.send-guest.result.me.0 c.follow-full.result
    seen
    (ap (λ (v : View _). v.known) h ∙ ap (λ (v : View _). v.known ++ old.known) idle)
    (ap (λ (v : View _). v.holds) h ∙ ap (λ (v : View _). union v.holds old.holds) idle)
    (ap (λ (v : View _). v.count) h ∙ ap (λ (v : View _). count_of v old) idle)
    (ap (λ (v : View _). v.taught) h ∙ ap (λ (v : View _). v.taught ++ old.taught) idle)
    (ap (λ (v : View _). v.looks) h)
    (λ f m. subst (λ (v : View _). Among f v.facts) (sym c.check.ensures.same)
    (c.check.ensures.filled f (subst (λ (v : View _). Among f v.seen) c.check.ensures.same (subst (λ l. Among f l) (sym seen) m))))
    (c.follow-full.ensures x there) k.known k.differ
    (subst (λ (v : View _). Sent c.follow-full.result v c.send-guest.result.me.0) k.same c.send-guest.ensures.guest)

pub returns-clause-fills : goal.returns-clause-fills
returns-clause-fills g c = λ x begins.
    let there = begins_more g.A.Automaton.starts g.B.Home.plan (IsKnownRow c.args.guest.me.0) (HasKnownRow c.check.new.self)
    (guest_row c.args.self.now c.args.guest.me.0 c.host.new.self c.check.new.self c.requires.idle c.host.ensures c.check.ensures.same
    c.check.ensures.known) c.args.origin x begins in
    let facts = first_facts c.args.origin x ++ cells_of x c.args.looked.items in
    let h : c.check.new.self ≡ hosting c.args.self.now c.args.guest.me.0 = c.check.ensures.same ∙ c.host.ensures in
    let idle = c.requires.idle in
    let k = c.check-2.ensures in
    let old = c.args.guest.me.0 in
    let bench = c.send-guest.ensures.bench in
    fills g.B.Home.plan.rows facts old c.check.new.self c.follow-full.new.self c.send-guest.result.me.0 c.args.self.now
    c.send-guest.new.self c.follow-full.result
    (ap (λ (v : View _). v.taught) h ∙ ap (λ (v : View _). v.taught ++ old.taught) idle)
    (ap (λ (v : View _). v.facts) h)
    (c.follow-full.ensures x there) k.filled
    (sent_taught c.follow-full.result c.check-2.new.self c.send-guest.result.me.0 c.send-guest.ensures.guest
    ∙ ap (λ (v : View _). v.taught) k.same)
    (ap (λ (v : View _). v.facts) bench ∙ ap (λ (v : View _). v.facts) k.same)
    (ap (λ (v : View _). v.rows) bench ∙ ap (λ (v : View _). v.rows) k.same)
