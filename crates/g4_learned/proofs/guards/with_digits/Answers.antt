use Rattle.std.proofs.Common.{rules, ◌≡◌, ℕ, suc, ◌+◌, ◌∷◌, [], ◌++◌, ◌∙◌, ◌^◌, List, sym, ap, subst, arith}
use Rattle.std.specs.List.{range_with_len}
use Rattle.g4_learned.specs.Guards.{AreBelow}
use Rattle.g4_learned.proofs.Rising.{below_range, range_more}
use Rattle.g4_learned.proofs.guards.with_digits.Goals as goal

pub loop-number-preserved : goal.loop-number-preserved
loop-number-preserved c =
    let n = c.loop-number.number in
    let next : suc n ≡ n + 1 = omega arith in
    let more : range_with_len 0 (suc n) ≡ range_with_len 0 n ++ (0 + n) ∷ [] = range_more 0 n in
    let last : n ≡ 0 + n = omega arith in
    c.in_ok-push.ensures.items ∙ ap (λ (xs : List ℕ). xs ++ n ∷ []) c.loop-number.invariant
    ∙ ap (λ (x : ℕ). range_with_len 0 n ++ x ∷ []) last ∙ sym more ∙ ap (range_with_len 0) next

pub returns : goal.returns
returns c =
    let n : c.loop-number.number ≡ 2 ^ c.args.digits = search rules in
    subst (λ (xs : List ℕ). AreBelow (2 ^ c.args.digits) xs)
    (sym (c.loop-number.invariant ∙ ap (range_with_len 0) n)) (below_range (2 ^ c.args.digits))
