use Rattle.std.proofs.Common.{sym, ◌∙◌, List}
use Rattle.g4_tokens.specs.declared.set.Range.{Range}
use Rattle.g4_tokens.proofs.Without.{IsLeft, left_in, left_out, left_next, ended_apart, last_apart}
use Rattle.g4_tokens.proofs.set.Symbols.up_to_without.Goals as goal
use Rattle.g4_tokens.proofs.set.Symbols.up_to_without.Goals.{then-contains, then-first-symbol+in_ok-push, else-first-symbol, else-contains, then-first-greatest+in_ok-push-2, else-first-greatest}

pub loop-symbol-preserved : goal.loop-symbol-preserved
loop-symbol-preserved c =
    let set = c.args.left_out.now in
    let rs : List Range = c.loop-symbol.ranges.items in
    let first = c.loop-symbol.first in
    let symbol = c.loop-symbol.symbol-counter in
    let h : IsLeft set rs first symbol = c.loop-symbol.invariant in
    elim c.if-contains.branch [
      | then-contains w ↦
          elim w.if-first-symbol.branch [
            | then-first-symbol+in_ok-push v ↦ rw (w.ranges-is, w.first-is, v.ranges-is)
                (left_out set rs first symbol h _ (sym c.contains.ensures ∙ w.if-contains.true) v.if-first-symbol.true
                v.in_ok-push.ensures.items)
            | else-first-symbol v ↦ rw (w.ranges-is, w.first-is, v.ranges-is)
                (left_next set rs first symbol h (sym c.contains.ensures ∙ w.if-contains.true) v.if-first-symbol.false)
          ]
      | else-contains w ↦ rw (w.ranges-is, w.first-is) (left_in set rs first symbol h (sym c.contains.ensures ∙ w.if-contains.false))
    ]

pub invariant_of-result : goal.invariant_of-result
invariant_of-result c =
    let h : IsLeft c.args.left_out.now c.loop-symbol.ranges.items c.loop-symbol.first c.loop-symbol.symbol-counter =
    c.loop-symbol.invariant in
    elim c.if-first-greatest.branch [
      | then-first-greatest+in_ok-push-2 w ↦ rw w.ranges-is
          (last_apart _ _ _ _ h _ c.args.greatest w.if-first-greatest.true w.in_ok-push-2.ensures.items)
      | else-first-greatest w ↦ rw w.ranges-is (ended_apart _ _ _ _ h)
    ]
