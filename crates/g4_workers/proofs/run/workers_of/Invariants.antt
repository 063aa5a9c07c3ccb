use Rattle.std.proofs.Common.{◌≡◌, ◌≤◌, ◌⊎◌, All, Contains, Some, ℕ, suc, length, slice_get, vec_len}
use Rattle.g4_hands.specs.Hands.{Holding}
use Rattle.g4_workers.specs.Placing.{HasBegun, IsReady, numbers_of}
use Rattle.g4_workers.proofs.run.workers_of.Given as goal

abbrev pub invariant-loop-hand : goal.invariant-loop-hand
invariant-loop-hand g l =
    All (λ (h : Holding). h.deal.files ≡ g.W.Work.files l._work) l.hands.items
    × (length l.hands.items ≤ 64)
    × (length l.states.items ≡ length l.hands.items)
    × ((i : ℕ) (state : g.row.S.Denot) → slice_get l.states.items i ≡ Some state → HasBegun (g.W.Work.has_done l._work) (suc i) state)
    × All (IsReady (g.W.Work.has_done l._work) (g.W.Work.files l._work) (g.W.Work.is_outcome l._work)) l.workers.items
    × ((n : ℕ) → n ≤ length l.initial.states.items → (n ≤ length l.hands.items) ⊎ Contains (numbers_of l.workers.items) n)

abbrev pub decreases-loop-hand : goal.decreases-loop-hand
decreases-loop-hand g l = vec_len l.hands
