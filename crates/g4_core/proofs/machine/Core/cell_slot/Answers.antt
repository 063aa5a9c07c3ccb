use Rattle.std.proofs.Common.{sym, inl, subst}
use Rattle.g4_core.specs.States.{State}
use Rattle.g4_core.specs.Laws.{IsReached}
use Rattle.g4_core.proofs.Filling.{cell_held, cell_open, cell_exists}
use Rattle.g4_core.proofs.machine.Core.cell_slot.Goals as goal

pub returns-in_err-cell : goal.returns-in_err-cell
returns-in_err-cell g c =
    let a = g.A.Automaton in
    let reached = subst (λ (s : State g.row.N.Denot g.row.C.Denot). IsReached a.starts a.leads s.plan s.files s) c.self.view_is
    c.self.invariant in
    absurd (cell_exists a.starts a.leads a.one_start a.one_led c.args.self.now reached c.in_ok-row.row c.args.looked.now.column
    c.args.content.now c.requires.column c.in_ok-row.ensures c.in_err-cell.ensures)

pub returns-in-Some : goal.returns-in-Some
returns-in-Some g c =
    let a = g.A.Automaton in
    let reached = subst (λ (s : State g.row.N.Denot g.row.C.Denot). IsReached a.starts a.leads s.plan s.files s) c.self.view_is
    c.self.invariant in
    inl (cell_held a.starts a.leads a.one_start a.one_led c.args.self.now reached c.in_ok-row.row c.args.looked.now.column
    c.args.content.now c.args.looked.now.led c.in-Some.field-0 c.requires.column c.requires.leads c.in_ok-row.ensures
    (sym c.in-Some.ensures))

pub returns-in-Some-entry_of : goal.returns-in-Some-entry_of
returns-in-Some-entry_of g c =
    let a = g.A.Automaton in
    let reached = subst (λ (s : State g.row.N.Denot g.row.C.Denot). IsReached a.starts a.leads s.plan s.files s) c.self.view_is
    c.self.invariant in
    cell_open a.starts a.leads a.one_start a.one_led c.args.self.now reached c.in_ok-row.row c.args.looked.now.column c.in_ok-cell.cell
    c.args.content.now c.args.looked.now.led c.in-Some-entry_of.entry c.requires.column c.in_ok-row.ensures
    (sym c.in-None.ensures) c.in_ok-cell.ensures.0 c.in-Some-entry_of.ensures
