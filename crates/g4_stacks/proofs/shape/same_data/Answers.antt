use Rattle.std.proofs.Common.{rules, ◌≡◌}
use Rattle.std.specs.Bool.{Decides}
use Rattle.std.proofs.lemmas.Slice.Eq.{slice_eq-Decides}
use Rattle.g4_stacks.specs.Graph.{Content}
use Rattle.g4_stacks.proofs.Shapes.{pairs_Decides, same_by_tops}
use Rattle.g4_stacks.proofs.shape.same_data.Goals as goal

pub returns : goal.returns
returns c =
    let left : Content = record { end = c.left.inside.end; wild = c.left.inside.wild; tops = c.as_slice.result.now } in
    let right : Content = record { end = c.right.inside.end; wild = c.right.inside.wild; tops = c.as_slice-2.result.now } in
    let view : left ≡ c.args.left.now = search rules in
    let view' : right ≡ c.args.right.now = search rules in
    let ends : left.end ≡ right.end = search rules in
    let wilds : left.wild ≡ right.wild = search rules in
    let tops : Decides c.eq.result (left.tops ≡ right.tops) =
    slice_eq-Decides pairs_Decides left.tops right.tops c.eq.result c.eq.ensures in
    same_by_tops left right c.args.left.now c.args.right.now view view' ends wilds c.eq.result tops
