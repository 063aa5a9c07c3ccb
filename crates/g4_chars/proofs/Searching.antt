-- The one range of a set that can hold a character.
use Rattle.std.proofs.Common.{ℕ, zero, suc, ◌+◌, ◌<◌, ◌≤◌, inl, inr, List, [], ◌∷◌, length, get_or, nat_lt, arith}
use Rattle.std.proofs.lemmas.Bool.Decides.{nat_tests}
use Rattle.std.specs.List.Sorted.{IsPartitionedBy}
use Rattle.g4_chars.specs.declared.range.Range.{Range}
use Rattle.g4_chars.specs.CharSets.{Has, RiseFrom, IsCanonical}
use Rattle.g4_chars.proofs.Ranges.{rise_past}

-- the ranges that end before a character are the first ones
at_least : (n : ℕ) (rs : List Range) (j : ℕ) (d : Range) → RiseFrom n rs → j < length rs
    → (n ≤ (get_or rs j d).first) × ((get_or rs j d).first ≤ (get_or rs j d).last)
at_least n [] j d rise h = absurd (omega arith)
at_least n (r ∷ rs) zero d rise h = (rise.0, rise.1.0)
at_least n (r ∷ rs) (suc j) d rise h =
    let more = at_least (r.last + 2) rs j d rise.2 (omega arith) in
    (omega (arith, more.0, rise.0, rise.1.0), more.1)

pub ends_rise : (n : ℕ) (rs : List Range) (i j : ℕ) (d : Range) → RiseFrom n rs → i ≤ j → j < length rs
    → (get_or rs i d).last ≤ (get_or rs j d).last
ends_rise n [] i j d rise le h = absurd (omega arith)
ends_rise n (r ∷ rs) zero zero d rise le h = omega arith
ends_rise n (r ∷ rs) zero (suc j) d rise le h = let more = at_least (r.last + 2) rs j d rise.2 (omega arith) in
    omega (arith, more.0, more.1)
ends_rise n (r ∷ rs) (suc i) zero d rise le h = absurd (omega arith)
ends_rise n (r ∷ rs) (suc i) (suc j) d rise le h = ends_rise (r.last + 2) rs i j d rise.2 (omega arith) (omega arith)

pub parted : (rs : List Range) (c : ℕ) → IsCanonical rs → IsPartitionedBy (λ (r : Range). nat_lt r.last c) rs
parted rs c rise i j d le h before = let ends = ends_rise 0 rs i j d rise le h in grind (arith, nat_tests)

-- what the range at the first index whose range ends at the character or past it decides
pub has_at_point : (n : ℕ) (rs : List Range) (at c : ℕ) (d : Range) → RiseFrom n rs → at < length rs
    → ((k : ℕ) → k < at → (get_or rs k d).last < c) → c ≤ (get_or rs at d).last → Has rs c → (get_or rs at d).first ≤ c
has_at_point n [] at c d rise h before not_past has = absurd has
has_at_point n (r ∷ rs) zero c d rise h before not_past (inl w) = w.0
has_at_point n (r ∷ rs) zero c d rise h before not_past (inr later) =
    absurd (omega (arith, not_past, rise_past (r.last + 2) rs c rise.2 later))
has_at_point n (r ∷ rs) (suc at) c d rise h before not_past (inl w) = absurd (omega (arith, w.1, before 0 (omega arith)))
has_at_point n (r ∷ rs) (suc at) c d rise h before not_past (inr later) =
    has_at_point (r.last + 2) rs at c d rise.2 (omega arith) (λ k less. before (suc k) (omega (arith, less))) not_past later

-- a character past the end of each range is in none
pub has_none : (rs : List Range) (c : ℕ) (d : Range) → ((k : ℕ) → k < length rs → (get_or rs k d).last < c) → Has rs c → ⊥
has_none [] c d before has = has
has_none (r ∷ rs) c d before (inl w) = absurd (omega (arith, w.1, before 0 (omega arith)))
has_none (r ∷ rs) c d before (inr later) = has_none rs c d (λ k less. before (suc k) (omega (arith, less))) later
