-- The least members of blocks.
use Rattle.std.proofs.Common.{◌≡◌, ℕ, ◌+◌, ◌<◌, inl, inr, List, [], ◌∷◌, ◌++◌, length, get_or, sym, ◌∙◌, ap, arith}
use Rattle.std.proofs.lemmas.Bool.{cases_eq}
use Rattle.std.proofs.lemmas.List.{get_or_append_left, get_or_push, get_or_read}

-- one more member with the least one of its block
pub member_more : (blocks least members new : List ℕ) (k v : ℕ) → new ≡ members ++ v ∷ [] → length members ≡ k
    → v ≡ get_or least (get_or blocks k 0) v → get_or blocks k 0 < length least
    → ((i : ℕ) → i < k → get_or members i 0 ≡ get_or least (get_or blocks i 0) 0) → (i : ℕ) → i < k + 1
    → get_or new i 0 ≡ get_or least (get_or blocks i 0) 0
member_more blocks least members new k v is many read within before i less = elim (cases_eq i k) [
  | inl same ↦ (
      let value : get_or new k 0 ≡ v = ap (λ (xs : List ℕ). get_or xs k 0) is ∙ get_or_push members v 0 k many in
      let there : v ≡ get_or least (get_or blocks k 0) 0 = get_or_read least (get_or blocks k 0) v within read 0 in
      ap (λ (x : ℕ). get_or new x 0) same ∙ value ∙ there ∙ ap (λ (x : ℕ). get_or least (get_or blocks x 0) 0) (sym same)
      )
  | inr other ↦ ap (λ (xs : List ℕ). get_or xs i 0) is ∙ get_or_append_left members (v ∷ []) 0 i (omega (arith, many, less, other))
      ∙ before i (omega (arith, less, other))
]
