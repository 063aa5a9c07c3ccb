-- What lists of ranges have.
use Rattle.std.proofs.Common.{◌≡◌, ℕ, zero, suc, ◌+◌, ◌-◌, ◌<◌, ◌≤◌, ◌⊎◌, ◌↔◌, inl, inr, List, [], ◌∷◌, length, get_or, arith, Contains}
use Rattle.std.specs.List.{range_with_len}
use Rattle.std.proofs.lemmas.List.Elements.{Contains-append_left, Contains-append_right, Contains-append_cases}
use Rattle.std.proofs.lemmas.List.FromFn.{length-range_with_len, get_or-range_with_len}
use Rattle.g4_tokens.specs.declared.set.Range.{Range}
use Rattle.g4_tokens.specs.Members.{range_members, members}

-- the range has the symbol
abbrev pub IsWithin : Range → ℕ → Type 0
IsWithin r c = (r.first ≤ c) × (c ≤ r.last)

-- one of the ranges has it
abbrev pub Has : List Range → ℕ → Type 0
Has [] c = ⊥
Has (r ∷ rs) c = IsWithin r c ⊎ Has rs c

-- a run of numbers has those between its ends
run_has : (a n c : ℕ) → Contains (range_with_len a n) c ↔ ((a ≤ c) × (c < a + n))
run_has a n c = (to, from)
  where
    to : Contains (range_with_len a n) c → (a ≤ c) × (c < a + n)
    to (k, less, is) =
        let short : k < n = omega (arith, length-range_with_len a n) in
        let e : get_or (range_with_len a n) k c ≡ a + k = get_or-range_with_len a n k c short in
        (omega arith, omega arith)

    from : (a ≤ c) × (c < a + n) → Contains (range_with_len a n) c
    from (low, high) =
        let e : get_or (range_with_len a n) (c - a) c ≡ a + (c - a) = get_or-range_with_len a n (c - a) c (omega arith) in
        (c - a, omega (arith, length-range_with_len a n), omega arith)

-- the members of a range are the symbols that it has
range_has : (r : Range) (c : ℕ) → Contains (range_members r) c ↔ IsWithin r c
range_has r c = let run = run_has r.first (r.last + 1 - r.first) c in
    ((λ i. let w = run.0 i in (w.0, omega (arith, w.0, w.1))), λ w. run.1 (w.0, omega (arith, w.0, w.1)))

-- and those of ranges the symbols that one of them has
pub members_has : (rs : List Range) (c : ℕ) → Contains (members rs) c ↔ Has rs c
members_has [] c = ((λ i. absurd (omega (arith, i.1))), λ h. absurd h)
members_has (r ∷ rs) c =
    let one = range_has r c in
    let more = members_has rs c in (
      λ i. elim (Contains-append_cases (range_members r) (members rs) c i) [ inl a ↦ inl (one.0 a) | inr b ↦ inr (more.0 b) ],
      λ h. elim h [
        | inl w ↦ Contains-append_left (range_members r) (members rs) c (one.1 w)
        | inr k ↦ Contains-append_right
            (range_members r) (members rs) c (more.1 k)
      ],
    )

-- what the range at an index has
pub has_at : (rs : List Range) (k : ℕ) (d : Range) (c : ℕ) → k < length rs → IsWithin (get_or rs k d) c → Has rs c
has_at [] k d c h w = absurd (omega arith)
has_at (r ∷ rs) zero d c h w = inl w
has_at (r ∷ rs) (suc k) d c h w = inr (has_at rs k d c (omega arith) w)
