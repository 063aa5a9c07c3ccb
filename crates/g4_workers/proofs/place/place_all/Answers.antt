use Rattle.std.proofs.Common.{◌≡◌, ◌∷◌, [], suc, sym, ◌∙◌, true≢false}
use Rattle.g4_workers.specs.Placing.{IsReady, files_in}
use Rattle.g4_workers.proofs.Joined.{all_joined, none_joined, one_joined}
use Rattle.g4_workers.proofs.Placed.{all_less, no_items}
use Rattle.g4_workers.proofs.place.place_all.Goals.{then-not-join_state, else-not-join_state}
use Rattle.g4_workers.proofs.place.place_all.Goals as goal

pub loop-worker-init : goal.loop-worker-init
loop-worker-init g c =
    let work = c.args.work.now in (
      c.requires.slots,
      c.requires.ready,
      λ _. none_joined (g.W.Work.has_done work) (g.W.Work.files work) (g.W.Work.is_outcome work) c.args.workers.items c.args.slots.now
          c.args.state.now c.requires.begun c.requires.none,
    )

pub loop-worker-preserved : goal.loop-worker-preserved
loop-worker-preserved g c =
    let work = c.args.work.now in
    let has = g.W.Work.has_done work in
    let files = g.W.Work.files work in
    let is = g.W.Work.is_outcome work in
    let w = c.in-Some.worker in
    let h = c.loop-worker.invariant in
    let same = c.in-Some.ensures.items in
    let one = all_less (IsReady has files is) c.loop-worker.workers.items c.pop.new.self.items w h.1 same in (
      c.place.ensures.slots,
      one.0,
      λ complete. elim c.if-not-join_state.branch [
        | then-not-join_state b ↦ absurd (true≢false (sym complete ∙ b.complete-is))
        | else-not-join_state b ↦ one_joined has files is c.args.workers.items c.loop-worker.workers.items c.pop.new.self.items w
            c.loop-worker.slots c.place.new.slots c.loop-worker.state c.join_state.new.state
            (h.2 (sym b.complete-is ∙ complete)) same one.1.outcomes c.place.ensures.placed
            (λ numbers done before. c.join_state.ensures numbers done (suc w.number ∷ []) (files_in w.outcomes.items)
            b.if-not-join_state.false
            before one.1.done)
      ],
    )

pub returns-clause-joined : goal.returns-clause-joined
returns-clause-joined g c jobs numbers complete =
    let work = c.args.work.now in
    let none : c.loop-worker.workers.items ≡ [] =
    no_items c.loop-worker.workers.items (sym c.loop-worker.workers.ok.0 ∙ c.in_default.ensures.cases.0) in
    all_joined (g.W.Work.has_done work) (g.W.Work.files work) (g.W.Work.is_outcome work) c.args.workers.items c.loop-worker.workers.items
    c.loop-worker.slots c.loop-worker.state jobs (c.loop-worker.invariant.2 complete) none numbers
