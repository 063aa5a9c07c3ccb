use Rattle.std.proofs.Common.{◌≡◌, ◌<◌, ◌+◌, ℕ, None, Option, set, sym, subst, arith}
use Rattle.g4_workers.specs.Placing.{AreSlots, HasJoined}
use Rattle.g4_workers.proofs.Joined.{IsPast, all_past, first_past, next_past}
use Rattle.g4_workers.proofs.Placed.{clear_slot, more_in_place, none_in_place, placed_clear, placed_read, slot_is}
use Rattle.g4_workers.proofs.finish.finish.Goals as goal

pub outcome_of-requires-clause-slot : goal.outcome_of-requires-clause-slot
outcome_of-requires-clause-slot g c κs within =
    let files = g.W.Work.files c.args.work.now in
    let is = g.W.Work.is_outcome c.args.work.now in
    let slots = c.loop-file.slots in
    let file = c.loop-file.file in
    let in_files : file < files = omega (arith, c.loop-file-test.true, c.requires.files) in
    let had = c.take-slot.ensures.value in
    slot_is is files slots file c.take-slot.result c.index-slots-file.result c.loop-file.invariant.0 in_files had

pub loop-file-init : goal.loop-file-init
loop-file-init g c = (
  c.requires.slots,
  none_in_place (g.W.Work.is_outcome c.args.work.now) c.new-outcomes.result.items c.new-outcomes.ensures.items,
  λ jobs joined. first_past (g.W.Work.has_done c.args.work.now) jobs (g.W.Work.files c.args.work.now) c.args.slots.now
      c.args.state.now joined,
)

pub loop-file-preserved : goal.loop-file-preserved
loop-file-preserved g c =
    let files = g.W.Work.files c.args.work.now in
    let is = g.W.Work.is_outcome c.args.work.now in
    let slots = c.loop-file.slots in
    let file = c.loop-file.file in
    let before = c.loop-file.outcomes.items in
    let now = c.push.new.self.items in
    let x = c.in_ok-outcome.outcome in
    let h = c.loop-file.invariant in
    let in_files : file < files = omega (arith, c.loop-file-test.true, c.requires.files) in
    let has = g.W.Work.has_done c.args.work.now in
    let cleared = clear_slot is files slots file h.0 in (
      subst (λ (s : Option g.row.O.Denot). AreSlots files is (set slots file s)) (sym c.take-slot.ensures.after) cleared,
      more_in_place is file before now x h.1 c.in_ok-outcome.ensures.outcome c.in_ok-push.ensures.items,
      λ jobs joined.
          subst (λ (s : Option g.row.O.Denot).
          HasJoined has jobs files (λ n. ⊥) (IsPast (file + 1) (set slots file s)) c.outcome_of.new.state)
          (sym c.take-slot.ensures.after)
          (next_past has jobs files file slots (set slots file None) c.take-slot.result c.loop-file.state c.outcome_of.new.state
          (h.2 jobs joined) in_files (λ k placed. placed_clear slots file k placed)
          (λ there. placed_read slots file c.take-slot.result c.index-slots-file.result (omega (arith, in_files, h.0.long))
          c.take-slot.ensures.value there)
          c.in_ok-outcome.ensures.done),
    )

pub returns-clause-all : goal.returns-clause-all
returns-clause-all g c jobs joined =
    let all : c.loop-file.file ≡ g.W.Work.files c.args.work.now =
    omega (arith, c.loop-file-test.false, c.loop-file.auto.file-end, c.requires.files) in
    let has = g.W.Work.has_done c.args.work.now in
    all_past has jobs (g.W.Work.files c.args.work.now) c.loop-file.slots c.loop-file.state
    (subst (λ (n : ℕ). HasJoined has jobs (g.W.Work.files c.args.work.now) (λ n. ⊥) (IsPast n c.loop-file.slots) c.loop-file.state) all
    (c.loop-file.invariant.2 jobs joined))
