use Rattle.std.proofs.Common.{◌≡◌, List, refl, sym, ap, ◌∙◌, subst, inl, inr}
use mathlib.Core.Option.{some}
use lib.ListN.{get_elem?}
use Rattle.g4_core.specs.declared.event.Phase.{Phase}
use Rattle.g4_core.specs.declared.event.Phase.TheVariants.{Learning}
use Rattle.g4_core.specs.Laws.{IsReached}
use Rattle.g4_core.specs.States.{State}
use Rattle.g4_core.proofs.Filling.{valid}
use Rattle.g4_core.proofs.machine.Core.stands.Goals as goal

pub is_learned-requires : goal.is_learned-requires
is_learned-requires g c =
    let a = g.A.Automaton in
    let reached = subst (λ (s : State g.row.N.Denot g.row.C.Denot). IsReached a.starts a.leads s.plan s.files s) c.self.view_is
    c.self.invariant in
    valid a.starts a.leads a.one_start a.one_led c.args.self.now reached c.in-Learning.file c.in-Learning.question
    c.in_ok-path-in-Learning.path.now c.in_ok-path-in-Learning.ensures

pub returns-then-is_learned : goal.returns-then-is_learned
returns-then-is_learned g c =
    let workers : c.as_slice.result.now ≡ c.args.self.now.workers =
    c.as_slice.ensures.value ∙ ap (λ (s : State g.row.N.Denot g.row.C.Denot). s.workers) c.self.view_is in
    let is : c.in_ok-phase.phase ≡ Learning c.in-Learning.file c.in-Learning.question c.in-Learning.field-2 = cc in (
      Learning c.in-Learning.file c.in-Learning.question c.in-Learning.field-2,
      subst (λ (l : List Phase). get_elem? l c.args.worker
          ≡ some (Learning c.in-Learning.file c.in-Learning.question c.in-Learning.field-2))
          workers (c.in_ok-phase.ensures ∙ ap some is),
      (
        c.in_ok-path-in-Learning.path.now,
        c.in_ok-path-in-Learning.ensures,
        inl (c.is_learned.ensures.0 c.if-is_learned.true, c.phase_after.ensures),
      ),
    )

pub returns-else-is_learned : goal.returns-else-is_learned
returns-else-is_learned g c =
    let workers : c.as_slice.result.now ≡ c.args.self.now.workers =
    c.as_slice.ensures.value ∙ ap (λ (s : State g.row.N.Denot g.row.C.Denot). s.workers) c.self.view_is in
    let is : c.in_ok-phase.phase ≡ Learning c.in-Learning.file c.in-Learning.question c.in-Learning.field-2 = cc in (
      Learning c.in-Learning.file c.in-Learning.question c.in-Learning.field-2,
      subst (λ (l : List Phase). get_elem? l c.args.worker
          ≡ some (Learning c.in-Learning.file c.in-Learning.question c.in-Learning.field-2))
          workers (c.in_ok-phase.ensures ∙ ap some is),
      (
        c.in_ok-path-in-Learning.path.now,
        c.in_ok-path-in-Learning.ensures,
        inr ((λ left. let yes = c.is_learned.ensures.1 left in let bad : ⊥ = cc in bad), refl),
      ),
    )
