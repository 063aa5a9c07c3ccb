use Rattle.std.proofs.Common.{◌<◌, refl, sym, ap, ◌∙◌, subst}
use Rattle.atomic_table.specs.Table.{step}
use mathlib.Core.Option.{none}
use Rattle.g4_store.specs.Numbers.{Among, has}
use Rattle.g4_store.specs.Found.{CellFound}
use Rattle.g4_store.proofs.Loads.{probes_cell}
use Rattle.g4_store.proofs.Passes.{cell_pass, cell_found, cell_rows}
use Rattle.g4_store.proofs.pass.Pass.read_cell.Goals as goal

pub load-found-requires : goal.load-found-requires
load-found-requires g c =
    let p = c.self.invariant in
    let d = c.desk.ensures in
    let w = c.cell_word-word.ensures in
    let r = c.requires in (
      p.0 ∙ sym d.0,
      subst (λ (t : _). c.cell_word-word.result < t.words) (sym d.0) w.1,
      rw d.1 (probes_cell g.A.Automaton.starts g.A.Automaton.leads g.B.Home.plan _ _ _ c.args.row c.args.column r.row.0 _
          (step c.desk.result.now.table_id.slots c.cell_word-word.result 0 0 none) refl w.0 r.place.1
          (subst (λ (q : _). Among (c.args.row, r.row.0) q.0.known) (sym c.self.view_is) r.row.1) (ap (λ v. v.spent) p.2)),
    )

pub invariant_of-self : goal.invariant_of-self
invariant_of-self g c =
    let p = c.self.invariant in
    let e = c.load-found.ensures in
    let r = c.requires in
    let t = e.2.1 c.args.row c.args.column r.row.0
    (subst (λ (q : _). Among (c.args.row, r.row.0) q.0.known) (sym c.self.view_is) r.row.1) r.place.1 c.cell_word-word.ensures.0 in
    let k = cell_pass g.A.Automaton.starts g.A.Automaton.leads g.B.Home.plan c.args.row r.row.0 c.args.column c.load-found.result _ _
    t p.2 in
    let rows = cell_rows g.A.Automaton.starts g.A.Automaton.leads g.B.Home.plan c.args.row r.row.0 c.args.column c.load-found.result _ _
    c.self.inside.full t p.4 in
    (e.0 ∙ p.0, e.2.0 ∙ p.1, k.0, (p.3.0, ap (λ l. has p.3.0 l) k.1 ∙ p.3.1), rows)

pub returns-clause-rows : goal.returns-clause-rows
returns-clause-rows g c =
    let e = c.load-found.ensures in
    let r = c.requires in
    let t = e.2.1 c.args.row c.args.column r.row.0
    (subst (λ (q : _). Among (c.args.row, r.row.0) q.0.known) (sym c.self.view_is) r.row.1) r.place.1 c.cell_word-word.ensures.0 in
    cell_rows g.A.Automaton.starts g.A.Automaton.leads g.B.Home.plan c.args.row r.row.0 c.args.column c.load-found.result _ _
    c.self.inside.full t c.self.invariant.4

pub returns-clause-found : goal.returns-clause-found
returns-clause-found g c = λ x known.
    let e = c.load-found.ensures in
    let t = e.2.1 c.args.row c.args.column x (subst (λ (q : _). Among (c.args.row, x) q.0.known) (sym c.self.view_is) known)
    c.requires.place.1 c.cell_word-word.ensures.0 in
    subst (λ (q : _). CellFound g.A.Automaton.starts g.A.Automaton.leads g.B.Home.plan c.args.row x c.args.column q.0
    c.load-found.new.seat.me.0 c.decode.result) c.self.view_is
    (cell_found g.A.Automaton.starts g.A.Automaton.leads g.B.Home.plan c.args.row x c.args.column c.load-found.result
    c.self.inside.seat.me.0 c.load-found.new.seat.me.0 c.decode.result c.decode.ensures t)
