use Rattle.std.proofs.Common.{◌≡◌, ◌<◌, length, refl, sym, ap, ◌∙◌, subst, inr, arith}
use Rattle.atomic_table.specs.Table.{step}
use mathlib.Core.Option.{none, some}
use lib.ListN.{get_elem?}
use Rattle.g4_store.specs.declared.view.View.{View}
use Rattle.g4_store.specs.Numbers.{has}
use Rattle.g4_store.specs.Views.{grown}
use Rattle.g4_store.proofs.Lists.{in_range}
use Rattle.g4_store.proofs.Growing.{grows}
use Rattle.g4_store.proofs.Benches.{grown_bench}
use Rattle.g4_store.proofs.bench.Bench.grow_row.Goals as goal

pub store-requires : goal.store-requires
store-requires g c =
    let p = c.self.invariant in
    let d = c.desk.ensures in
    let r = c.requires in
    let len : c.len-word.result ≡ length c.self.inside.seat.me.0.rows =
    c.len-word.ensures.0 ∙ sym (ap (λ (v : View _). length v.rows) c.self.view_is) in
    let room : length c.self.inside.seat.me.0.rows < g.B.Home.plan.rows =
    subst (λ (v : View _). length v.rows < g.B.Home.plan.rows) (sym c.self.view_is) r.room in
    let there : get_elem? c.self.inside.seat.me.0.rows c.args.row ≡ some r.row.0 =
    ap (λ (v : View _). get_elem? v.rows c.args.row) c.self.view_is ∙ r.row.1 in
    let before = in_range c.self.inside.seat.me.0.rows c.args.row r.row.0 there in (
      p.0 ∙ sym d.0,
      (let a = d.2 in omega arith),
      rw d.1 (grows g.A.Automaton.starts g.A.Automaton.leads g.A.Automaton.one_start g.A.Automaton.one_led g.B.Home.plan _ _
          c.len-word.result c.parent_word-parent.result r.guest.1.0 c.args.content _
          (step c.desk.result.now.table_id.slots c.len-word.result c.parent_word-parent.result 0 none) refl refl
          (ap (λ (v : View _). v.spent) p.2) (ap (λ (v : View _). v.is_book) p.2)
          (ap (λ (v : View _). v.loose) c.self.view_is ∙ r.guest.0)
          (ap (λ (v : View _). has r.guest.1.0 v.holds) c.self.view_is ∙ r.guest.1.1)
          len (omega arith) (inr (
            c.args.row,
            c.args.column,
            c.args.mark,
            r.row.0,
            (omega arith),
            there,
            r.place.1,
            c.parent_word-parent.ensures,
            r.row.2,
          )) (λ k e.
          r.fresh (k, ap (λ (v : View _). get_elem? v.rows k) (sym c.self.view_is) ∙ e))),
    )

pub invariant_of-self : goal.invariant_of-self
invariant_of-self g c =
    let p = c.self.invariant in
    let r = c.requires in
    let e = c.store.ensures in
    let len : c.len-word.result ≡ length c.self.inside.seat.me.0.rows =
    c.len-word.ensures.0 ∙ sym (ap (λ (v : View _). length v.rows) c.self.view_is) in
    let there : get_elem? c.self.inside.seat.me.0.rows c.args.row ≡ some r.row.0 =
    ap (λ (v : View _). get_elem? v.rows c.args.row) c.self.view_is ∙ r.row.1 in
    let before = in_range c.self.inside.seat.me.0.rows c.args.row r.row.0 there in
    let is = e.2.1 c.args.content (inr (
      c.args.row,
      c.args.column,
      c.args.mark,
      r.row.0,
      (omega arith),
      there,
      r.place.1,
      c.parent_word-parent.ensures,
      r.row.2,
    )) in
    let b = c.push.ensures in
    (e.0 ∙ p.0, e.2.0 ∙ p.1, grown_bench c.self.inside.rows.0 _ _ _ c.args.content is p.2 (ap (λ q. q.0) b), ap (λ q. q.1) b ∙ p.3)

pub push-requires : goal.push-requires
push-requires g c =
    let p = c.self.invariant in
    let rows : length c.self.inside.rows.0 ≡ length c.self.inside.seat.me.0.rows = sym (ap (λ (v : View _). length v.rows) p.2) in
    let room : length c.self.inside.seat.me.0.rows < g.B.Home.plan.rows =
    subst (λ (v : View _). length v.rows < g.B.Home.plan.rows) (sym c.self.view_is) c.requires.room in
    let most = p.3 in
    omega arith

pub returns : goal.returns
returns g c =
    let p = c.self.invariant in
    let r = c.requires in
    let len : c.len-word.result ≡ length c.self.inside.seat.me.0.rows =
    c.len-word.ensures.0 ∙ sym (ap (λ (v : View _). length v.rows) c.self.view_is) in
    let there : get_elem? c.self.inside.seat.me.0.rows c.args.row ≡ some r.row.0 =
    ap (λ (v : View _). get_elem? v.rows c.args.row) c.self.view_is ∙ r.row.1 in
    let before = in_range c.self.inside.seat.me.0.rows c.args.row r.row.0 there in
    subst (λ (q : View _). c.store.new.seat.me.0 ≡ grown c.args.content q) c.self.view_is
    (c.store.ensures.2.1 c.args.content (inr (
      c.args.row,
      c.args.column,
      c.args.mark,
      r.row.0,
      (omega arith),
      there,
      r.place.1,
      c.parent_word-parent.ensures,
      r.row.2,
    )))
