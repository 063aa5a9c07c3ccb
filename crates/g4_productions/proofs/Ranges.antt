-- The ranges of what passes a test.
use Rattle.std.proofs.Common.{◌≡◌, ℕ, zero, suc, ◌+◌, ◌<◌, ◌≤◌, ◌⊎◌, inl, inr, ◌↔◌, List, [], ◌∷◌, Bool, true, false, refl, sym, ap, ◌∙◌, arith, true≢false}
use Rattle.std.specs.Prelude.{◌==◌, if◌then◌else◌}
use Rattle.std.proofs.lemmas.Bool.{cases_lt, eqb-true, eqb-false}
use Rattle.g4_chars.specs.CharSets.{IsScalar, IsWithin, Has, RiseFrom}
use Rattle.g4_chars.specs.declared.range.Range.{Range as Span}
use Rattle.g4_productions.specs.Members.{with_first, ranges_from}

-- ranges that rise from a number rise from one before it
rise_before : (n m : ℕ) (rs : List Span) → n ≤ m → RiseFrom m rs → RiseFrom n rs
rise_before n m [] le rise = rise
rise_before n m (r ∷ rs) le rise = (omega (arith, le, rise.0), rise.1, rise.2)

-- ranges with one character more before them rise
with_first_rises : (c : ℕ) (rs : List Span) → IsScalar c → RiseFrom (c + 1) rs → RiseFrom c (with_first c rs)
with_first_rises c [] scalar rise = (omega arith, (omega arith, scalar), tt)
with_first_rises c (r ∷ rs) scalar rise = by_test (r.first == c + 1) refl
  where
    wider : r.first ≡ c + 1 → IsScalar c → (r.last < 0xD800) ⊎ ((0xE000 ≤ r.first) × (r.last < 0x110000))
        → (r.last < 0xD800) ⊎ ((0xE000 ≤ c) × (r.last < 0x110000))
    wider next scalar (inl low) = inl low
    wider next (inl low) (inr high) = absurd (omega (arith, low, high.0, next))
    wider next (inr above) (inr high) = inr (above.0, high.1)

    by_test : (b : Bool) → (r.first == c + 1) ≡ b
        → RiseFrom c (if b then record { first = c; last = r.last } ∷ rs else record { first = c; last = c } ∷ r ∷ rs)
    by_test true is = let next : r.first ≡ c + 1 = eqb-true r.first (c + 1) is in
        (omega arith, (omega (arith, next, rise.1.0), wider next scalar rise.1.1), rise.2)
    by_test false is =
        let apart : r.first ≡ c + 1 → ⊥ = eqb-false r.first (c + 1) is in
        (omega arith, (omega arith, scalar), (omega (arith, rise.0, apart), rise.1, rise.2))

-- they have that character and theirs
with_first_has : (c : ℕ) (rs : List Span) (x : ℕ) → RiseFrom (c + 1) rs → Has (with_first c rs) x ↔ ((x ≡ c) ⊎ Has rs x)
with_first_has c [] x rise = (
  λ h. elim h [ inl within ↦ inl (omega (arith, within.0, within.1)) | inr never ↦ absurd never ],
  λ h. elim h [ inl is ↦ inl (omega (arith, is), omega (arith, is)) | inr never ↦ absurd never ],
)
with_first_has c (r ∷ rs) x rise = by_test (r.first == c + 1) refl
  where
    narrow : r.first ≡ c + 1 → IsWithin (record { first = c; last = r.last }) x → (c < x) ⊎ (x ≤ c) → (x ≡ c) ⊎ IsWithin r x
    narrow next within (inl past) = inr (omega (arith, next, past), within.1)
    narrow next within (inr low) = inl (omega (arith, within.0, low))

    by_test : (b : Bool) → (r.first == c + 1) ≡ b
        → Has (if b then record { first = c; last = r.last } ∷ rs else record { first = c; last = c } ∷ r ∷ rs) x
        ↔ ((x ≡ c) ⊎ Has (r ∷ rs) x)
    by_test true is =
        let next : r.first ≡ c + 1 = eqb-true r.first (c + 1) is in (
          λ h. elim h [
            | inl within ↦ elim (narrow next within (cases_lt c x)) [ inl same ↦ inl same | inr there ↦ inr (inl there) ]
            | inr after ↦ inr (inr after)
          ],
          λ h. elim h [
            | inl same ↦ inl (omega (arith, same), omega (arith, same, next, rise.1.0))
            | inr there ↦ elim there [ inl within ↦ inl (omega (arith, next, within.0), within.1) | inr after ↦ inr after ]
          ],
        )
    by_test false is = (
      λ h. elim h [ inl within ↦ inl (omega (arith, within.0, within.1)) | inr there ↦ inr there ],
      λ h. elim h [ inl same ↦ inl (omega (arith, same), omega (arith, same)) | inr there ↦ inr there ],
    )

-- the characters that pass a test are scalar values
abbrev pub IsOfScalars : (ℕ → Bool) → Type 0
IsOfScalars test = (c : ℕ) → test c ≡ true → IsScalar c

-- the ranges of what passes the test rise
pub ranges_rise : (test : ℕ → Bool) (start count : ℕ) → IsOfScalars test → RiseFrom start (ranges_from test start count)
unfolding ranges_from
ranges_rise test start zero scalars = tt
ranges_rise test start (suc count) scalars = by_test (test start) refl (ranges_rise test (start + 1) count scalars)
  where
    by_test : (b : Bool) → test start ≡ b → RiseFrom (start + 1) (ranges_from test (start + 1) count)
        → RiseFrom start (if b then with_first start (ranges_from test (start + 1) count) else ranges_from test (start + 1) count)
    by_test true is rise = with_first_rises start (ranges_from test (start + 1) count) (scalars start is) rise
    by_test false is rise = rise_before start (start + 1) (ranges_from test (start + 1) count) (omega arith) rise

-- a number among so many from the start on that passes the test
abbrev IsAmong : (ℕ → Bool) → ℕ → ℕ → ℕ → Type 0
IsAmong test start count c = (start ≤ c) × (c < start + count) × (test c ≡ true)

-- those with one more before them
among_more : (test : ℕ → Bool) (start count c : ℕ) → IsAmong test (start + 1) count c → IsAmong test start (suc count) c
among_more test start count c (from, below, is) = (omega (arith, from), omega (arith, below), is)

-- the first of them, or one of the others
among_cases : (test : ℕ → Bool) (start count c : ℕ) → IsAmong test start (suc count) c → (c ≡ start) ⊎ IsAmong test (start + 1) count c
among_cases test start count c (from, below, is) =
    elim (cases_lt start c) [ inl past ↦ inr (omega (arith, past), omega (arith, below), is) | inr low ↦ inl (omega (arith, from, low)) ]

-- the ranges of what passes the test have just that
pub ranges_have : (test : ℕ → Bool) (start count c : ℕ) → IsOfScalars test
    → Has (ranges_from test start count) c ↔ IsAmong test start count c
unfolding ranges_from
ranges_have test start zero c scalars = (λ never. absurd never, λ among. absurd (omega (arith, among.0, among.1)))
ranges_have test start (suc count) c scalars =
    by_test (test start) refl (ranges_rise test (start + 1) count scalars) (ranges_have test (start + 1) count c scalars)
  where
    by_test : (b : Bool) → test start ≡ b → RiseFrom (start + 1) (ranges_from test (start + 1) count)
        → (Has (ranges_from test (start + 1) count) c ↔ IsAmong test (start + 1) count c)
        → Has (if b then with_first start (ranges_from test (start + 1) count) else ranges_from test (start + 1) count) c
        ↔ IsAmong test start (suc count) c
    by_test true is rise have =
        let first = with_first_has start (ranges_from test (start + 1) count) c rise in (
          λ h. elim (first.0 h) [
            | inl same ↦ (omega (arith, same), omega (arith, same), ap test same ∙ is)
            | inr there ↦ among_more
                test start count c (have.0 there)
          ],
          λ among. elim (among_cases test start count c among) [ inl same ↦ first.1 (inl same) | inr there ↦ first.1 (inr (have.1 there)) ],
        )
    by_test false is rise have = (
      λ h. among_more test start count c (have.0 h),
      λ among. elim (among_cases test start count c among)
          [ inl same ↦ absurd (true≢false (sym among.2 ∙ ap test same ∙ is)) | inr there ↦ have.1 there ],
    )
