use Rattle.std.proofs.Common.{refl, subst, ◌≡◌}
use Rattle.g4_store.specs.declared.path.Path.{Path}
use Rattle.g4_core.specs.Laws.{IsReached}
use Rattle.g4_core.specs.States.{State}
use Rattle.g4_core.specs.Steps.{IsClosed, NextCell}
use Rattle.g4_core.proofs.Filling.{next_closed, valid}
use Rattle.g4_core.proofs.Standing.{one_learned}
use Rattle.g4_core.proofs.machine.Core.learn_cell.Goals as goal

pub returns-in_default : goal.returns-in_default
returns-in_default g c = λ d h. c.in_default.ensures h.0 h.1 h.2 h.6 h.7

pub next_slot-requires : goal.next_slot-requires
next_slot-requires g c =
    let a = g.A.Automaton in
    let reached = subst (λ (s : State g.row.N.Denot g.row.C.Denot). IsReached a.starts a.leads s.plan s.files s) c.self.view_is
    c.self.invariant in
    valid a.starts a.leads a.one_start a.one_led c.args.self.now reached c.in-Some.turn.0 c.in-Some.turn.1
    c.in-Some-path_of.path.now c.in-Some-path_of.ensures

pub returns-in_default-next_slot : goal.returns-in_default-next_slot
returns-in_default-next_slot g c = λ d h.
    let turn = c.in-Some.ensures in
    let same = one_learned c.args.self.now c.args.worker c.in-Some.turn.0 c.in-Some.turn.1 turn.1 c.in-Some-path_of.path.now turn.2
    c.in-Some-path_of.ensures h.0 h.1 h.2 h.3 h.6 h.8 in
    next_closed c.args.self.now c.in-Some-path_of.path.now h.4 c.in_default-next_slot.ensures
    (subst (λ (p : Path g.row.C.Denot). NextCell c.args.self.now p h.4) same h.9)

pub returns : goal.returns
returns g c =
    let turn = c.in-Some.ensures in
    let next = c.in-Some-next_slot.ensures in (
      c.in-Some.turn.0,
      c.in-Some.turn.1,
      turn.1,
      c.in-Some-path_of.path.now,
      next.0,
      c.in-Some-next_slot.slot,
      turn.2,
      turn.0,
      c.in-Some-path_of.ensures,
      next.1,
      next.2,
      refl,
    )
