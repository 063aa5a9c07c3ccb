use Rattle.std.proofs.Common.{◌≡◌, length, ap, ◌∙◌, arith}
use mathlib.Core.Option.{some}
use lib.ListN.{get_elem?}
use Rattle.g4_store.specs.declared.view.View.{View}
use Rattle.g4_store.proofs.Lists.{in_range}
use Rattle.g4_store.proofs.bench.Bench.has_row.Goals as goal

pub returns : goal.returns
returns g c =
    let p = c.self.invariant in
    let at : get_elem? c.self.inside.seat.me.0.rows c.args.row ≡ some c.requires.0 =
    ap (λ (v : View _). get_elem? v.rows c.args.row) c.self.view_is ∙ c.requires.1 in
    let lt = in_range c.self.inside.seat.me.0.rows c.args.row c.requires.0 at in
    let rows : length c.self.inside.seat.me.0.rows ≡ length c.self.inside.rows.0 = ap (λ (v : View _). length v.rows) p.2 in
    let few = c.len.ensures.1 in
    let room = p.3 in
    omega arith
