use Rattle.std.proofs.Common.{◌≡◌, ap, ◌∙◌, sym, subst}
use mathlib.Core.Option as maybe
use lib.ListN.{get_elem?}
use Rattle.g4_store.specs.declared.automaton.Led.TheVariants.{Row}
use Rattle.g4_store.specs.declared.automaton.Fact.TheVariants.{Cell}
use Rattle.g4_store.specs.declared.view.View.{View}
use Rattle.g4_store.specs.Numbers.{Among, has}
use Rattle.g4_store.specs.Paths.{TakesOr}
use Rattle.g4_store.proofs.Following.{cell_takes}
use Rattle.g4_store.proofs.bench.Bench.learn_row.Goals as goal

pub returns-then-reread_cell : goal.returns-then-reread_cell
returns-then-reread_cell g c = λ x row.
    let e = c.if-reread_cell.ensures x row in
    let r = c.requires.row in
    let x_is : r.0 ≡ x = maybe.some-injective _ _ (sym r.1 ∙ row) in
    let led_is : e.0 ≡ Row c.args.content c.args.mark =
    g.A.Automaton.one_led g.B.Home.plan.net x c.args.column e.0 (Row c.args.content c.args.mark) e.2
    (subst (λ q. g.A.Automaton.leads g.B.Home.plan.net q c.args.column (Row c.args.content c.args.mark)) x_is r.2) in
    cell_takes g.B.Home.plan.rows x c.args.column c.args.content c.args.mark c.args.self.now c.reread_cell.new.self e.0 e.1
    c.find.result c.requires.guest.0 led_is e.3 e.4 e.5 e.6 c.find.ensures.some c.find.ensures.none

pub place_row-requires-clause-row : goal.place_row-requires-clause-row
place_row-requires-clause-row g c =
    let r = c.requires.row in
    let e = c.if-reread_cell.ensures r.0 r.1 in
    (r.0, ap (λ (v : View _). get_elem? v.rows c.args.row) e.0 ∙ r.1, r.2)

pub place_row-requires-clause-empty : goal.place_row-requires-clause-empty
place_row-requires-clause-empty g c = λ x row led m.
    let r = c.requires.row in
    let same = (c.if-reread_cell.ensures r.0 r.1).0 in
    let e = c.if-reread_cell.ensures x (sym (ap (λ (v : View _). get_elem? v.rows c.args.row) same) ∙ row) in
    e.1 led (subst (λ (v : View _). Among (Cell x c.args.column led) v.facts) e.0 m)

pub place_row-requires-clause-guest : goal.place_row-requires-clause-guest
place_row-requires-clause-guest g c =
    let q = c.requires.row in
    let e = c.if-reread_cell.ensures q.0 q.1 in
    let r = c.requires.guest in
    (ap (λ (v : View _). v.loose) e.0 ∙ r.0, (r.1.0, ap (λ (v : View _). has r.1.0 v.holds) e.0 ∙ r.1.1))

pub returns : goal.returns
returns g c = λ x row.
    let e = c.if-reread_cell.ensures x row in
    subst (λ (v : View _). TakesOr g.B.Home.plan.rows (Cell x c.args.column (Row c.args.content c.args.mark)) c.args.content v
    c.place_row.new.self c.place_row.result) e.0
    (c.place_row.ensures x (ap (λ (v : View _). get_elem? v.rows c.args.row) e.0 ∙ row))
