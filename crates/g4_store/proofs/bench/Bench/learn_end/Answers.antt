use Rattle.std.proofs.Common.{◌≡◌, [], ap, ◌∙◌, sym, subst}
use mathlib.Core.Option as maybe
use lib.ListN.{get_elem?}
use Rattle.g4_store.specs.declared.automaton.Led.TheVariants.{End}
use Rattle.g4_store.specs.declared.automaton.Fact.TheVariants.{Cell}
use Rattle.g4_store.specs.declared.view.View.{View}
use Rattle.g4_store.specs.Numbers.{Among, has}
use Rattle.g4_store.specs.Views.{filled}
use Rattle.g4_store.proofs.Following.{end_takes, fill_ends}
use Rattle.g4_store.proofs.bench.Bench.learn_end.Goals as goal

pub returns-else-not-reread_cell : goal.returns-else-not-reread_cell
returns-else-not-reread_cell g c = λ x row.
    let e = c.if-not-reread_cell.ensures x row in
    let r = c.requires.row in
    let x_is : r.0 ≡ x = maybe.some-injective _ _ (sym r.1 ∙ row) in
    let led_is : e.0 ≡ End c.args.code = g.A.Automaton.one_led g.B.Home.plan.net x c.args.column e.0 (End c.args.code) e.2
    (subst (λ q. g.A.Automaton.leads g.B.Home.plan.net q c.args.column (End c.args.code)) x_is r.2) in
    end_takes x c.args.column c.args.code c.args.self.now c.reread_cell.new.self e.0 e.1 c.requires.guest.0 led_is e.3 e.4 e.6

pub fill_end-requires-clause-row : goal.fill_end-requires-clause-row
fill_end-requires-clause-row g c =
    let r = c.requires.row in
    let e = c.if-not-reread_cell.ensures r.0 r.1 in
    (r.0, ap (λ (v : View _). get_elem? v.rows c.args.row) e.0 ∙ r.1, r.2)

pub fill_end-requires-clause-empty : goal.fill_end-requires-clause-empty
fill_end-requires-clause-empty g c = λ x row led m.
    let r = c.requires.row in
    let same = (c.if-not-reread_cell.ensures r.0 r.1).0 in
    let e = c.if-not-reread_cell.ensures x (sym (ap (λ (v : View _). get_elem? v.rows c.args.row) same) ∙ row) in
    e.1 led (subst (λ (v : View _). Among (Cell x c.args.column led) v.facts) e.0 m)

pub fill_end-requires-clause-guest : goal.fill_end-requires-clause-guest
fill_end-requires-clause-guest g c =
    let q = c.requires.row in
    let e = c.if-not-reread_cell.ensures q.0 q.1 in
    let r = c.requires.guest in
    (ap (λ (v : View _). v.loose) e.0 ∙ r.0, (r.1.0, ap (λ (v : View _). has r.1.0 v.holds) e.0 ∙ r.1.1))

pub returns-then-not-reread_cell : goal.returns-then-not-reread_cell
returns-then-not-reread_cell g c = λ x row.
    let e = c.if-not-reread_cell.ensures x row in
    fill_ends (Cell x c.args.column (End c.args.code)) c.args.self.now c.fill_end.new.self (e.1 (End c.args.code))
    (c.fill_end.ensures x (ap (λ (v : View _). get_elem? v.rows c.args.row) e.0 ∙ row)
    ∙ ap (λ (v : View _). filled (Cell x c.args.column (End c.args.code)) [] v) e.0)
