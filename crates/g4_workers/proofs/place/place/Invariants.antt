use Rattle.std.proofs.Common.{◌⊎◌, ℕ, Contains, vec_len}
use Rattle.g4_workers.specs.Placing.{AreOutcomesOf, AreSlots, IsPlaced, files_in}
use Rattle.g4_workers.proofs.place.place.Given as goal

abbrev pub invariant-loop-numbered : goal.invariant-loop-numbered
invariant-loop-numbered g l =
    AreSlots (g.W.Work.files l._work) (g.W.Work.is_outcome l._work) l.slots
    × AreOutcomesOf (g.W.Work.files l._work) (g.W.Work.is_outcome l._work) l.outcomes.items
    × ((file : ℕ) → IsPlaced l.slots file → IsPlaced l.initial.slots file ⊎ Contains (files_in l.initial.outcomes.items) file)
    × ((file : ℕ) → Contains (files_in l.outcomes.items) file → Contains (files_in l.initial.outcomes.items) file)

abbrev pub decreases-loop-numbered : goal.decreases-loop-numbered
decreases-loop-numbered g l = vec_len l.outcomes
