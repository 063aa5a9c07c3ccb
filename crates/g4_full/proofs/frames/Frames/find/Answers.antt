use Rattle.std.proofs.Common.{◌≡◌, Some, slice_get, ◌∙◌, ap}
use Rattle.std.proofs.lemmas.Option.{slice_get_within}
use Rattle.g4_full.specs.Remembered.{row_by}
use Rattle.g4_full.proofs.Noting.{got}
use Rattle.g4_full.proofs.frames.Frames.find.Goals as goal

pub returns-then-same : goal.returns-then-same
returns-then-same c =
    let look = c.in_ok-frame.ensures.lookup in
    let there : slice_get c.args.self.now.sets.items c.in-Some.number ≡ Some c.in_ok-frame.frame.now =
    got c.args.self.now.sets.items c.as_slice.result.now c.in-Some.number c.in_ok-frame.frame.now c.as_slice.ensures.value look.3.0
    look.1 in (
      slice_get_within c.args.self.now.sets.items c.in-Some.number c.in_ok-frame.frame.now there,
      ap row_by there ∙ c.same.ensures.0 c.if-same.true,
    )
