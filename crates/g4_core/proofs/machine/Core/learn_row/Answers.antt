use Rattle.std.proofs.Common.{true, ap, sym, subst}
use Rattle.g4_store.specs.declared.path.Path.{Path}
use Rattle.g4_core.specs.declared.event.Phase.TheVariants.{Learning}
use Rattle.g4_core.specs.declared.event.Effect.TheVariants.{Adds}
use Rattle.g4_core.specs.Steps.{NextRow, change}
use Rattle.g4_core.proofs.Standing.{one_learned}
use Rattle.g4_core.proofs.machine.Core.learn_row.Goals as goal

pub returns-in_default : goal.returns-in_default
returns-in_default g c = λ d h. c.in_default.ensures h.0 h.1 h.2 h.5 h.6

pub returns-in_default-next_row : goal.returns-in_default-next_row
returns-in_default-next_row g c = λ d h.
    let turn = c.in-Some.ensures in
    let same = one_learned c.args.self.now c.args.worker c.in-Some.turn.0 c.in-Some.turn.1 turn.1 c.in-Some-path_of.path.now turn.2
    c.in-Some-path_of.ensures h.0 h.1 h.2 h.3 h.5 h.7 in
    c.in_default-next_row.ensures h.4
    (subst (λ (p : Path g.row.C.Denot). NextRow c.args.self.now p h.4) same h.8)

pub returns : goal.returns
returns g c =
    let turn = c.in-Some.ensures in (
      c.in-Some.turn.0,
      c.in-Some.turn.1,
      turn.1,
      c.in-Some-path_of.path.now,
      c.in-Some-next_row.row.now,
      turn.2,
      turn.0,
      c.in-Some-path_of.ensures,
      c.in-Some-next_row.ensures,
      ap (λ (y : g.row.C.Denot). change c.args.worker (Learning c.in-Some.turn.0 c.in-Some.turn.1 true) (Adds y)) c.in_ok-content.ensures,
    )
