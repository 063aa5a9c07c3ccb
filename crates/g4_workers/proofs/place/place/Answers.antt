use Rattle.std.proofs.Common.{inl, inr, Contains, arith, subst, sym}
use Rattle.g4_workers.specs.Placing.{IsOutcomeOf, files_in}
use Rattle.g4_workers.proofs.Placed.{all_less, files_front, files_last, placed_set, set_slot}
use Rattle.g4_workers.proofs.place.place.Goals as goal

pub bounds-slots-file : goal.bounds-slots-file
bounds-slots-file g c =
    let files = g.W.Work.files c.args._work.now in
    let is = g.W.Work.is_outcome c.args._work.now in
    let x = c.in-Some.numbered in
    let h = c.loop-numbered.invariant in
    let one = all_less (IsOutcomeOf files is) c.loop-numbered.outcomes.items c.pop.new.self.items x h.1 c.in-Some.ensures.items in
    omega (arith, one.1.0, h.0.long)

pub loop-numbered-preserved : goal.loop-numbered-preserved
loop-numbered-preserved g c =
    let files = g.W.Work.files c.args._work.now in
    let is = g.W.Work.is_outcome c.args._work.now in
    let x = c.in-Some.numbered in
    let h = c.loop-numbered.invariant in
    let same = c.in-Some.ensures.items in
    let one = all_less (IsOutcomeOf files is) c.loop-numbered.outcomes.items c.pop.new.self.items x h.1 same in
    let last : Contains (files_in c.args.outcomes.items) x.file =
    h.3 x.file (files_last c.loop-numbered.outcomes.items c.pop.new.self.items x same) in (
      set_slot is files c.loop-numbered.slots x.file x.outcome h.0 one.1.1,
      one.0,
      λ file placed. elim (placed_set c.loop-numbered.slots x.file file x.outcome placed) [
        | inl before ↦ h.2 file before
        | inr e ↦ inr (subst (Contains (files_in c.args.outcomes.items)) (sym e) last)
      ],
      λ file among. h.3 file (files_front c.loop-numbered.outcomes.items c.pop.new.self.items x same file among),
    )

pub loop-numbered-preserved-in-Some : goal.loop-numbered-preserved-in-Some
loop-numbered-preserved-in-Some g c =
    let files = g.W.Work.files c.args._work.now in
    let is = g.W.Work.is_outcome c.args._work.now in
    let x = c.in-Some.numbered in
    let h = c.loop-numbered.invariant in
    let same = c.in-Some.ensures.items in
    let one = all_less (IsOutcomeOf files is) c.loop-numbered.outcomes.items c.pop.new.self.items x h.1 same in
    let last : Contains (files_in c.args.outcomes.items) x.file =
    h.3 x.file (files_last c.loop-numbered.outcomes.items c.pop.new.self.items x same) in (
      set_slot is files c.loop-numbered.slots x.file x.outcome h.0 one.1.1,
      one.0,
      λ file placed. elim (placed_set c.loop-numbered.slots x.file file x.outcome placed) [
        | inl before ↦ h.2 file before
        | inr e ↦ inr (subst (Contains (files_in c.args.outcomes.items)) (sym e) last)
      ],
      λ file among. h.3 file (files_front c.loop-numbered.outcomes.items c.pop.new.self.items x same file among),
    )
