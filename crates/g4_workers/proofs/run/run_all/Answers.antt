use Rattle.std.proofs.Common.{inl, inr, ℕ, List, Option, All, Contains, ap, length, sym, subst, ◌∙◌}
use Rattle.g4_workers.specs.declared.worker.Worker.{Worker}
use Rattle.g4_workers.specs.Placing.{HasJoined, IsPlaced, IsReady, numbers_of}
use Rattle.g4_workers.proofs.Placed.{written_back}
use Rattle.g4_workers.proofs.run.run_all.Goals as goal

pub place_all-complete-requires-clause-none : goal.place_all-complete-requires-clause-none
place_all-complete-requires-clause-none g c κs within file placed =
    c.in_ok-slots.ensures.none file (subst (λ (ss : List (Option g.row.O.Denot)). IsPlaced ss file) c.as_mut_slice-2.ensures.value placed)

pub place_all-complete-requires-clause-ready : goal.place_all-complete-requires-clause-ready
place_all-complete-requires-clause-ready g c κs within =
    let work = c.args.work.now in
    let workers = c.in_ok-workers.workers in
    let back = written_back workers.items workers.len c.work_together.new.workers workers.ok.0
    (c.work_together.ensures.long ∙ ap length c.as_mut_slice.ensures.value) in
    subst (λ (ws : List (Worker g.row.S.Denot g.row.O.Denot)).
    All (IsReady (g.W.Work.has_done work) (g.W.Work.files work) (g.W.Work.is_outcome work)) ws) (sym back) c.work_together.ensures.ready

pub returns-clause-all : goal.returns-clause-all
returns-clause-all g c complete =
    let work = c.args.work.now in
    let workers = c.in_ok-workers.workers in
    let slots = c.in_ok-slots.slots in
    let jobs = length c.args.states.items in
    let back = written_back workers.items workers.len c.work_together.new.workers workers.ok.0
    (c.work_together.ensures.long ∙ ap length c.as_mut_slice.ensures.value) in
    let same = ap numbers_of back ∙ (c.work_together.ensures.numbers ∙ ap numbers_of c.as_mut_slice.ensures.value) in
    let joined = c.place_all-complete.ensures.joined jobs (λ n low. elim (c.in_ok-workers.ensures.numbers n low) [
      | inl is ↦ inl is
      | inr among ↦ inr (subst (λ (ns : List ℕ). Contains ns n) (sym same) among)
    ]) complete in
    let slots_back = written_back slots.items slots.len c.place_all-complete.new.slots slots.ok.0
    (c.place_all-complete.ensures.slots.long ∙ sym c.in_ok-slots.ensures.slots.long) in
    c.in_ok-outcomes.ensures.all jobs
    (subst (λ (ss : List (Option g.row.O.Denot)).
    HasJoined (g.W.Work.has_done work) jobs (g.W.Work.files work) (λ n. ⊥) (IsPlaced ss) c.place_all-complete.new.state)
    (sym slots_back ∙ sym c.as_mut_slice-3.ensures.value) joined)
