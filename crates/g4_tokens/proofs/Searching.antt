-- The one range of a set that can have a symbol.
use Rattle.std.proofs.Common.{ℕ, zero, suc, ◌+◌, ◌<◌, ◌≤◌, inl, inr, List, [], ◌∷◌, length, get_or, nat_lt, arith}
use Rattle.std.proofs.lemmas.Bool.Decides.{nat_tests}
use Rattle.std.specs.List.Sorted.{IsPartitionedBy}
use Rattle.g4_tokens.specs.declared.set.Range.{Range}
use Rattle.g4_tokens.specs.Members.{IsApart}
use Rattle.g4_tokens.proofs.Ranges.{Has}

-- ranges in order, the first of which begins at n or later
abbrev pub RiseFrom : ℕ → List Range → Type 0
RiseFrom n [] = Unit {0}
RiseFrom n (r ∷ rs) = (n ≤ r.first) × (r.first ≤ r.last) × RiseFrom (r.last + 2) rs

rise_from : (n : ℕ) (r : Range) (rs : List Range) → n ≤ r.first → IsApart (r ∷ rs) → RiseFrom n (r ∷ rs)
rise_from n r [] le apart = (le, apart, tt)
rise_from n r (s ∷ more) le apart = (le, apart.0, rise_from (r.last + 2) s more (omega (arith, apart.1)) apart.2)

-- ranges apart are in order
pub rise : (rs : List Range) → IsApart rs → RiseFrom 0 rs
rise [] apart = tt
rise (r ∷ rs) apart = rise_from 0 r rs (omega arith) apart

-- no symbol before their start is in ranges in order
rise_past : (n : ℕ) (rs : List Range) (c : ℕ) → RiseFrom n rs → Has rs c → n ≤ c
rise_past n [] c rise h = absurd h
rise_past n (r ∷ rs) c rise (inl w) = omega (arith, rise.0, w.0)
rise_past n (r ∷ rs) c rise (inr h) = omega (arith, rise.0, rise.1, rise_past (r.last + 2) rs c rise.2 h)

-- the ranges that end before a symbol are the first ones
at_least : (n : ℕ) (rs : List Range) (j : ℕ) (d : Range) → RiseFrom n rs → j < length rs
    → (n ≤ (get_or rs j d).first) × ((get_or rs j d).first ≤ (get_or rs j d).last)
at_least n [] j d rise h = absurd (omega arith)
at_least n (r ∷ rs) zero d rise h = (rise.0, rise.1)
at_least n (r ∷ rs) (suc j) d rise h =
    let more = at_least (r.last + 2) rs j d rise.2 (omega arith) in
    (omega (arith, more.0, rise.0, rise.1), more.1)

ends_rise : (n : ℕ) (rs : List Range) (i j : ℕ) (d : Range) → RiseFrom n rs → i ≤ j → j < length rs
    → (get_or rs i d).last ≤ (get_or rs j d).last
ends_rise n [] i j d rise le h = absurd (omega arith)
ends_rise n (r ∷ rs) zero zero d rise le h = omega arith
ends_rise n (r ∷ rs) zero (suc j) d rise le h = let more = at_least (r.last + 2) rs j d rise.2 (omega arith) in
    omega (arith, more.0, more.1)
ends_rise n (r ∷ rs) (suc i) zero d rise le h = absurd (omega arith)
ends_rise n (r ∷ rs) (suc i) (suc j) d rise le h = ends_rise (r.last + 2) rs i j d rise.2 (omega arith) (omega arith)

pub parted : (rs : List Range) (c : ℕ) → IsApart rs → IsPartitionedBy (λ (r : Range). nat_lt r.last c) rs
parted rs c apart i j d le h before = let ends = ends_rise 0 rs i j d (rise rs apart) le h in grind (arith, nat_tests)

-- what the range at the first index whose range ends at the symbol or past it decides
pub has_at_point : (n : ℕ) (rs : List Range) (at c : ℕ) (d : Range) → RiseFrom n rs → at < length rs
    → ((k : ℕ) → k < at → (get_or rs k d).last < c) → c ≤ (get_or rs at d).last → Has rs c → (get_or rs at d).first ≤ c
has_at_point n [] at c d rise h before after has = absurd has
has_at_point n (r ∷ rs) zero c d rise h before after (inl w) = w.0
has_at_point n (r ∷ rs) zero c d rise h before after (inr later) = absurd (omega (arith, after, rise_past (r.last + 2) rs c rise.2 later))
has_at_point n (r ∷ rs) (suc at) c d rise h before after (inl w) = absurd (omega (arith, w.1, before 0 (omega arith)))
has_at_point n (r ∷ rs) (suc at) c d rise h before after (inr later) =
    has_at_point (r.last + 2) rs at c d rise.2 (omega arith) (λ k less. before (suc k) (omega (arith, less))) after later

-- a symbol past the end of each range is in none
pub has_none : (rs : List Range) (c : ℕ) (d : Range) → ((k : ℕ) → k < length rs → (get_or rs k d).last < c) → Has rs c → ⊥
has_none [] c d before has = has
has_none (r ∷ rs) c d before (inl w) = absurd (omega (arith, w.1, before 0 (omega arith)))
has_none (r ∷ rs) c d before (inr later) = has_none rs c d (λ k less. before (suc k) (omega (arith, less))) later
