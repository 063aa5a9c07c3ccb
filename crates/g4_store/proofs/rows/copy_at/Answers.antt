use Rattle.std.proofs.Common.{◌≡◌, ◌<◌, length, sym, ◌∙◌, arith}
use mathlib.Core.Option.{some-injective}
use Rattle.g4_store.proofs.Lists.{get_or_there, in_range}
use Rattle.g4_store.proofs.rows.copy_at.Goals as goal

pub bounds-rows-row : goal.bounds-rows-row
bounds-rows-row g c = in_range c.args.rows.now c.args.row c.requires.0 c.requires.1

pub offset_bounds-rows-row : goal.offset_bounds-rows-row
offset_bounds-rows-row g c = let lt : c.args.row < length c.args.rows.now = bounds-rows-row g c in omega arith

pub returns : goal.returns
returns g c = λ x at.
    let lt = in_range c.args.rows.now c.args.row x at in
    let row : c.index-rows-row.result ≡ x =
    c.index-rows-row.is ∙ some-injective _ _ (sym (get_or_there c.args.rows.now c.args.row c.index-rows-row.result lt) ∙ at) in
    c.in_ok-made.ensures ∙ row
