use Rattle.std.proofs.Common.{◌≡◌, MatchOption, subst}
use Rattle.g4_core.specs.declared.event.Change.{Change}
use Rattle.g4_core.specs.declared.event.Place.{Place}
use Rattle.g4_core.specs.declared.event.Place.TheVariants.{Cell}
use Rattle.g4_core.specs.Steps.{Reads}
use Rattle.g4_core.proofs.machine.Core.read.Goals as goal

pub returns-in-Cell : goal.returns-in-Cell
returns-in-Cell g c =
    let is : Cell c.in-Cell.row c.in-Cell.at ≡ c.args.place = cc in
    subst (λ (p : Place). MatchOption c.read_cell.result
    ((d : Change g.row.C.Denot) → Reads c.args.self.now c.args.worker c.args.file c.args.question c.args.path.now p d → ⊥)
    (Reads c.args.self.now c.args.worker c.args.file c.args.question c.args.path.now p)) is c.read_cell.ensures
