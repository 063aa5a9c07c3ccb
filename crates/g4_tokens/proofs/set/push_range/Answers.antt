use Rattle.std.proofs.Common.{◌≡◌, ℕ, suc, ◌+◌, ◌-◌, ◌≤◌, List, [], ◌∷◌, ◌++◌, sym, ◌∙◌, ap, append_assoc, arith}
use Rattle.std.specs.List.{range_with_len}
use Rattle.g4_tokens.proofs.set.push_range.Goals as goal

-- the first number of a run may be written before the rest of it
run_step : (xs all : List ℕ) (first last : ℕ) → first ≤ last → xs ++ range_with_len first (last + 1 - first) ≡ all
    → (xs ++ first ∷ []) ++ range_with_len (first + 1) (last + 1 - (first + 1)) ≡ all
run_step xs all first last le before =
    let more : last + 1 - first ≡ suc (last + 1 - (first + 1)) = omega arith in
    append_assoc xs (first ∷ []) (range_with_len (first + 1) (last + 1 - (first + 1)))
    ∙ ap (λ (n : ℕ). xs ++ range_with_len first n) (sym more) ∙ before

pub loop-symbol-preserved : goal.loop-symbol-preserved
loop-symbol-preserved c = rw c.in_ok-push.ensures.items
    (run_step c.loop-symbol.all.items _ c.loop-symbol.symbol c.args.range.last c.loop-symbol-test.true c.loop-symbol.invariant)
