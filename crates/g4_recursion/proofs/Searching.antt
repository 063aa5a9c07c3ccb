-- Searches in order for the least number with a property.
use Rattle.std.proofs.Common.{◌≡◌, inl, inr, ℕ, ◌+◌, ◌<◌, ◌≤◌, List, [], ◌∷◌, ◌++◌, length, map, take, get_or, sym, ap, ◌∙◌, subst, arith}
use Rattle.std.proofs.lemmas.List.{map-append, take_more}
use Rattle.std.proofs.lemmas.Bool.{cases_lt, cases_order}
use Rattle.g4_recursion.specs.Least.{IsLeast}

-- no number below has the property
abbrev pub NoneBelow : (ℕ → Type 0) → ℕ → Type 0
NoneBelow P n = (k : ℕ) → k < n → P k → ⊥

-- the images of items up to the next one
pub image_more : {X Y : Type 0} (F : X → Y) (xs : List X) (i : ℕ) (x : X) (y : Y) (old new : List Y) → i < length xs
    → x ≡ get_or xs i x → y ≡ F x → new ≡ old ++ y ∷ [] → old ≡ map F (take i xs) → new ≡ map F (take (i + 1) xs)
image_more F xs i x y old new within item image pushed before =
    let next : map F (take (i + 1) xs) ≡ map F (take i xs) ++ F x ∷ [] =
    ap (map F) (take_more xs i x within ∙ ap (λ (z : _). take i xs ++ z ∷ []) (sym item)) ∙ map-append F (take i xs) (x ∷ []) in
    pushed ∙ (ap (λ (z : _). old ++ z ∷ []) image ∙ (ap (λ (zs : List _). zs ++ F x ∷ []) before ∙ sym next))

module _ (P : ℕ → Type 0) where
  -- the next number does not have it either
  pub one_passed : (n : ℕ) → NoneBelow P n → (P n → ⊥) → NoneBelow P (n + 1)
  one_passed n before here k less p = elim (cases_order k n) [
    | inl same ↦ here (subst P same p)
    | inr order ↦ elim order [ inl below ↦ before k below p | inr above ↦ omega (arith, less, above) ]
  ]

  -- the next number has it
  pub least_found : (n : ℕ) → NoneBelow P n → P n → IsLeast P n
  least_found n before here = (here, λ k p. elim (cases_lt k n) [ inl less ↦ absurd (before k less p) | inr above ↦ above ])

  -- the least place is of the least number, where numbers count from 1
  pub least_number : (place : ℕ) → ((n : ℕ) → P n → (at : ℕ) × (n ≡ at + 1)) → IsLeast (λ at. P (at + 1)) place → IsLeast P (place + 1)
  least_number place has_place least = (least.0, λ n p. let (at, is) = has_place n p in omega (arith, is, least.1 at (subst P is p)))

  -- none of the numbers has it that may
  pub all_passed : (n bound : ℕ) → bound ≤ n → ((k : ℕ) → P k → k < bound) → NoneBelow P n → (k : ℕ) → P k → ⊥
  all_passed n bound past within before k p = before k (omega (arith, within k p)) p
