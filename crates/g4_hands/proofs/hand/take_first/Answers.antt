use Rattle.std.proofs.Common.{◌∙◌, ap, arith, List, slice_get}
use native.Mathlib.Decide.{dec_lt}
use Rattle.g4_hands.specs.Reaches.{Reach}
use Rattle.g4_hands.proofs.hand.take_first.Goals as goal

pub loop-deque-preserved : goal.loop-deque-preserved
loop-deque-preserved g c =
    let k = c.loop-deque.deque in
    let same = c.loop-deque.invariant.0 in (
      c.in-None.ensures.0 ∙ same,
      λ d r ge lt at. elim (dec_lt d k) [
        | yes less ↦ c.loop-deque.invariant.1 d r ge less at
        | no not ↦ c.in-None.ensures.1 d r (omega (arith, not)) lt (ap (λ (l : List Reach). slice_get l d) same ∙ at)
      ],
    )
