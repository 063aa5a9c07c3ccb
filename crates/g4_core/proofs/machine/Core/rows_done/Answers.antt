use Rattle.std.proofs.Common.{◌≡◌, ◌<◌, length, refl, inl, inr, subst, ⊎_elim, arith}
use Rattle.g4_core.specs.States.{State}
use Rattle.g4_core.specs.Laws.{IsReached}
use Rattle.g4_core.proofs.Filling.{full, missing_among}
use Rattle.g4_core.proofs.machine.Core.rows_done.Goals as goal

pub returns-in-Some : goal.returns-in-Some
returns-in-Some g c =
    let room : length c.args.self.now.rows < c.args.self.now.plan.rows = c.has_room.ensures.0 c.if-has_room.true in (
      λ h. absurd cc,
      λ k. absurd (⊎_elim
          (λ (e : length c.args.self.now.rows ≡ c.args.self.now.plan.rows). let bad : ⊥ = omega arith in bad)
          (λ all. missing_among c.args.self.now.rows c.args.path.now c.in-Some.field-0.now c.in-Some.ensures all) k),
    )

pub returns-else-has_room : goal.returns-else-has_room
returns-else-has_room g c =
    let a = g.A.Automaton in
    let reached = subst (λ (s : State g.row.N.Denot g.row.C.Denot). IsReached a.starts a.leads s.plan s.files s) c.self.view_is
    c.self.invariant in (
      λ h. inl (full a.starts a.leads a.one_start a.one_led c.args.self.now reached
          (λ lt. let yes = c.has_room.ensures.1 lt in let bad : ⊥ = cc in bad)),
      λ k. refl,
    )
