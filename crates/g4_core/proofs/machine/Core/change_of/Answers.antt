use Rattle.std.proofs.Common.{◌≡◌, IfOk, MatchOption, Option, subst}
use Rattle.g4_core.specs.declared.event.Change.{Change}
use Rattle.g4_core.specs.declared.event.Event.{Event}
use Rattle.g4_core.specs.declared.event.Event.TheVariants.{Probe, LearnRow, LearnCell, Finish}
use Rattle.g4_core.specs.Steps.{Changes}
use Rattle.g4_core.proofs.machine.Core.change_of.Goals as goal

pub returns-in-Probe : goal.returns-in-Probe
returns-in-Probe g c =
    let is : Probe c.in-Probe.worker ≡ c.args.event = cc in
    subst (λ (e : Event). MatchOption c.probe.result ((d : Change g.row.C.Denot) → Changes c.args.self.now e d → ⊥)
    (Changes c.args.self.now e)) is c.probe.ensures

pub returns-in-LearnRow : goal.returns-in-LearnRow
returns-in-LearnRow g c =
    let is : LearnRow c.in-LearnRow.worker ≡ c.args.event = cc in
    subst (λ (e : Event). IfOk c.learn_row.result (λ (found : Option (Change g.row.C.Denot)). MatchOption found
    ((d : Change g.row.C.Denot) → Changes c.args.self.now e d → ⊥) (Changes c.args.self.now e))) is c.learn_row.ensures

pub returns-in-LearnCell : goal.returns-in-LearnCell
returns-in-LearnCell g c =
    let is : LearnCell c.in-LearnCell.worker ≡ c.args.event = cc in
    subst (λ (e : Event). MatchOption c.learn_cell.result ((d : Change g.row.C.Denot) → Changes c.args.self.now e d → ⊥)
    (Changes c.args.self.now e)) is c.learn_cell.ensures

pub returns-in-Finish : goal.returns-in-Finish
returns-in-Finish g c =
    let is : Finish c.in-Finish.worker ≡ c.args.event = cc in
    subst (λ (e : Event). MatchOption c.finish.result ((d : Change g.row.C.Denot) → Changes c.args.self.now e d → ⊥)
    (Changes c.args.self.now e)) is c.finish.ensures
