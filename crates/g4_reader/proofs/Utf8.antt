-- Bytes are UTF-8, or up to some point.
use Rattle.std.proofs.Common.{◌≡◌, ◌⊎◌, ℕ, zero, suc, ◌<◌, ◌≤◌, List, [], length, take, IsUtf8, refl, sym, subst, ◌∙◌, arith, inl, inr, ⊎_elim, true≢false, take_all}
use Rattle.std.proofs.lemmas.Bool.{cases_Bool, cases_lt, cond-true, cond-false}
use Rattle.std.proofs.lemmas.Str.{IsUtf8-from_is_utf8, is_utf8-from_IsUtf8, utf8_valid_len-IsValidUpTo}
use Rattle.std.specs.Str.{IsValidUpTo, is_utf8}
use Rattle.std.specs.Str.Lossy.{valid_len_up_to, utf8_valid_len}

-- up to a number of bytes, the longest front that is UTF-8
longest_front : (bytes : List ℕ) (most : ℕ) → IsUtf8 (take (valid_len_up_to bytes most) bytes)
    × ((k : ℕ) → valid_len_up_to bytes most < k → k ≤ most → ¬ (IsUtf8 (take k bytes)))
longest_front bytes zero = (([], (refl, refl)), λ k above within. absurd (omega arith))
longest_front bytes (suc m) =
    let rest = longest_front bytes m in
    ⊎_elim
    (λ yes.
    let is : valid_len_up_to bytes (suc m) ≡ suc m = cond-true _ _ _ yes in
    (subst (λ n. IsUtf8 (take n bytes)) (sym is) (IsUtf8-from_is_utf8 _ yes), λ k above within. absurd (omega arith)))
    (λ no.
    let is : valid_len_up_to bytes (suc m) ≡ valid_len_up_to bytes m = cond-false _ _ _ no in (
      subst (λ n. IsUtf8 (take n bytes)) (sym is) rest.0,
      λ k above within u. ⊎_elim
          (λ (top : m < k).
          let same : k ≡ suc m = omega arith in
          true≢false (sym (is_utf8-from_IsUtf8 _ (subst (λ n. IsUtf8 (take n bytes)) same u)) ∙ no))
          (λ (low : k ≤ m). rest.1 k (omega arith) low u)
          (cases_lt m k),
    ))
    (cases_Bool (is_utf8 (take (suc m) bytes)))

-- bytes are UTF-8, or up to some point
pub utf8_or_not : (bytes : List ℕ) → IsUtf8 bytes ⊎ ((at : ℕ) × IsValidUpTo bytes at)
unfolding utf8_valid_len
utf8_or_not bytes =
    let n = utf8_valid_len bytes in
    let front = longest_front bytes (length bytes) in
    ⊎_elim
    (λ (short : n < length bytes). inr (
      n,
      record {
        short = short;
        front = front.0;
        longest = λ m above u. ⊎_elim
            (λ (past : length bytes < m).
            front.1 (length bytes) short (omega arith)
            (subst IsUtf8 (take_all m bytes (omega arith) ∙ sym (take_all (length bytes) bytes (omega arith))) u))
            (λ (within : m ≤ length bytes). front.1 m above within u)
            (cases_lt (length bytes) m);
      },
    ))
    (λ (whole : length bytes ≤ n). inl (subst IsUtf8 (take_all n bytes whole) front.0))
    (cases_lt n (length bytes))

-- not both
pub not_both : (bytes : List ℕ) (at : ℕ) → IsUtf8 bytes → IsValidUpTo bytes at → ⊥
not_both bytes at utf8 valid = valid.longest (length bytes) valid.short
    (subst IsUtf8 (sym (take_all (length bytes) bytes (omega arith))) utf8)

-- the point is one
pub one_point : (bytes : List ℕ) (at other : ℕ) → IsValidUpTo bytes at → IsValidUpTo bytes other → at ≡ other
one_point bytes at other is also = sym (utf8_valid_len-IsValidUpTo bytes at is) ∙ utf8_valid_len-IsValidUpTo bytes other also
