use Rattle.std.proofs.Common.{◌≡◌, ◌+◌, None, Some, get_or, refl, sym, ap}
use Rattle.g4_core.specs.declared.event.Effect.TheVariants.{Answers}
use Rattle.g4_core.specs.declared.event.Phase.{Phase}
use Rattle.g4_core.specs.Steps.{change, given, phase_at}
use Rattle.g4_core.specs.States.{cell_of}
use Rattle.g4_core.specs.declared.event.Entry.TheVariants as entry
use Rattle.g4_core.proofs.Finding.{past, read}
use Rattle.g4_core.proofs.Reading.{cell_change, cell_changes}
use Rattle.g4_core.proofs.machine.Core.read_cell.Goals as goal

pub returns-in_default : goal.returns-in_default
returns-in_default g c = λ d h. past c.args.path.now.looked.items c.args.at h.0 c.in_default.ensures.item.3 h.1

pub returns-in-Some-Row : goal.returns-in-Some-Row
returns-in-Some-Row g c =
    let there = read c.args.path.now.looked.items c.args.at c.in-Some.looked.now c.in-Some.ensures.item.3.0 c.in-Some.ensures.item.1 in
    let is : get_or c.args.self.now.cells (cell_of c.args.self.now c.args.row c.in-Some.looked.now.column) None
    ≡ Some (entry.Row c.in-Some-Row.next c.in-Some-Row.field-0-1) = cc in
    cell_change c.args.self.now c.args.worker c.args.file c.args.question c.args.row c.args.at c.args.path.now c.in-Some.looked.now there
    (Some (entry.Row c.in-Some-Row.next c.in-Some-Row.field-0-1)) is _ refl

pub returns-in-Some-End : goal.returns-in-Some-End
returns-in-Some-End g c =
    let there = read c.args.path.now.looked.items c.args.at c.in-Some.looked.now c.in-Some.ensures.item.3.0 c.in-Some.ensures.item.1 in
    let is : get_or c.args.self.now.cells (cell_of c.args.self.now c.args.row c.in-Some.looked.now.column) None
    ≡ Some (entry.End c.in-Some-End.code) = cc in
    let phase : c.phase_after.result ≡ phase_at c.args.self.now c.args.file (c.args.question + 1) = c.phase_after.ensures in
    cell_change c.args.self.now c.args.worker c.args.file c.args.question c.args.row c.args.at c.args.path.now c.in-Some.looked.now there
    (Some (entry.End c.in-Some-End.code)) is _
    (ap (λ (p : Phase). change c.args.worker p (Answers (given c.args.file c.args.question c.in-Some-End.code c.args.at))) phase)

pub returns-in-None : goal.returns-in-None
returns-in-None g c =
    let there = read c.args.path.now.looked.items c.args.at c.in-Some.looked.now c.in-Some.ensures.item.3.0 c.in-Some.ensures.item.1 in
    cell_changes c.args.self.now c.args.worker c.args.file c.args.question c.args.row c.args.at c.args.path.now c.in-Some.looked.now there
    None (sym c.in-None.ensures) c.left_to_learn.result c.left_to_learn.ensures
