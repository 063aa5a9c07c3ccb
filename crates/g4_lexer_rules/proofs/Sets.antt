-- The sets of the characters that are between two numbers, and of those that a set leaves out, have one form.
use Rattle.std.proofs.Common.{◌≡◌, ℕ, ◌+◌, ◌-◌, ◌<◌, ◌≤◌, ◌⊎◌, ◌↔◌, inl, inr, List, [], ◌∷◌, ◌++◌, min, max, Bool, true, false, cond, nat_lt, refl, sym, subst, arith, append_assoc}
use Rattle.std.proofs.lemmas.Bool.Decides.{nat_tests}
use Rattle.std.proofs.lemmas.List.{append-nil}
use Rattle.g4_chars.specs.declared.range.Range.{Range}
use Rattle.g4_chars.specs.Building.{between, scalars, gaps}
use Rattle.g4_chars.specs.CharSets.{Has, IsScalar, IsCanonical, RiseFrom}
use Rattle.g4_chars.proofs.Laws.{one_form}
use Rattle.g4_chars.proofs.Ranges.{scalars_has, gaps_has}

-- ranges that rise from a number rise from each before it
rise_before : (n m : ℕ) (rs : List Range) → n ≤ m → RiseFrom m rs → RiseFrom n rs
rise_before n m [] low rise = tt
rise_before n m (r ∷ rs) low rise = (omega (arith, rise.0), rise.1, rise.2)

-- code points on one side of the surrogates, and then ranges that rise after them
between_then : (n lo hi m : ℕ) (rest : List Range) → n ≤ lo → n ≤ m → hi + 1 ≤ m → (hi ≤ 0xD800) ⊎ ((0xE000 ≤ lo) × (hi ≤ 0x110000))
    → RiseFrom m rest → RiseFrom n (between lo hi ++ rest)
between_then n lo hi m rest low from past side rise = by (nat_lt lo hi) refl
  where
    by : (b : Bool) → b ≡ nat_lt lo hi → RiseFrom n (cond b (record { first = lo; last = hi - 1 } ∷ []) [] ++ rest)
    by true e =
        let some : lo < hi = grind (arith, nat_tests) in (
          low,
          (omega arith, elim side [ inl h ↦ inl (omega arith) | inr h ↦ inr (h.0, omega (arith, h.1)) ]),
          rise_before (hi - 1 + 2) m rest (omega arith) rise,
        )
    by false e = rise_before n m rest from rise

-- the scalar values between two numbers, and then ranges that rise after them
scalars_then : (n start end m : ℕ) (rest : List Range) → n ≤ start → n ≤ m → end + 1 ≤ m → RiseFrom m rest
    → RiseFrom n (scalars start end ++ rest)
scalars_then n start end m rest low from past rise =
    let next : ℕ = max n (min end 0xD800 + 1) in
    let high : RiseFrom next (between (max start 0xE000) (min end 0x110000) ++ rest) =
    between_then next (max start 0xE000) (min end 0x110000) m rest (grind arith) (grind arith) (grind arith)
    (inr (grind arith, grind arith)) rise in
    subst (RiseFrom n) (sym (append_assoc (between start (min end 0xD800)) (between (max start 0xE000) (min end 0x110000)) rest))
    (between_then n start (min end 0xD800) next (between (max start 0xE000) (min end 0x110000) ++ rest) low (grind arith)
    (grind arith) (inl (grind arith)) high)

-- the scalar values from a number on
scalars_rise : (start end : ℕ) → RiseFrom start (scalars start end)
scalars_rise start end = subst (RiseFrom start) (append-nil (scalars start end))
    (scalars_then start start end (start + end + 1) [] (omega arith) (omega arith) (omega arith) tt)

-- those that ranges leave out
gaps_rise : (start : ℕ) (rs : List Range) → RiseFrom start rs → RiseFrom start (gaps start rs)
gaps_rise start [] rise = scalars_rise start 0x110000
gaps_rise start (r ∷ rs) rise =
    let later = gaps_rise (r.last + 1) rs (rise_before (r.last + 1) (r.last + 2) rs (omega arith) rise.2) in
    scalars_then start start r.first (r.last + 1) (gaps (r.last + 1) rs) (omega arith) (omega (arith, rise.0, rise.1.0))
    (omega (arith, rise.1.0)) later

-- a set in its one form that has the characters from the first to the last
pub is_between : (set : List Range) (first last : ℕ) → IsCanonical set
    → ((c : ℕ) → Has set c ↔ ((first ≤ c) × (c ≤ last) × IsScalar c)) → set ≡ scalars first (last + 1)
is_between set first last canonical has = one_form set (scalars first (last + 1)) canonical
    (rise_before 0 first (scalars first (last + 1)) (omega arith) (scalars_rise first (last + 1))) (λ c. (
      λ h. let w = (has c).0 h in (scalars_has first (last + 1) c).1 (w.0, omega (arith, w.1), w.2),
      λ h. let w = (scalars_has first (last + 1) c).0 h in (has c).1 (w.0, omega (arith, w.1), w.2),
    ))

-- a set in its one form that has the characters that another leaves out
pub is_others : (set others : List Range) → IsCanonical set → IsCanonical others
    → ((c : ℕ) → Has others c ↔ (IsScalar c × (Has set c → ⊥))) → others ≡ gaps 0 set
is_others set others canonical canonical_too has = one_form others (gaps 0 set) canonical_too (gaps_rise 0 set canonical) (λ c. (
  λ h. let w = (has c).0 h in (gaps_has 0 set c canonical).1 (omega arith, w.0, w.1),
  λ h. let w = (gaps_has 0 set c canonical).0 h in (has c).1 (w.1, w.2),
))
