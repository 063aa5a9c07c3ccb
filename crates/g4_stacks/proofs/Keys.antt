-- A merge and its key, the two nodes with the lesser first.
use Rattle.std.proofs.Common.{◌≡◌, ℕ, ◌⊎◌, inl, inr, List, min, max, sym, subst, arith}
use Rattle.g4_stacks.specs.Graph.{Content, IsNode}
use Rattle.g4_stacks.specs.Merge.{IsPart, IsUnion}

-- x and y are a and b with the lesser first
abbrev pub IsKey : ℕ → ℕ → ℕ → ℕ → Type 0
IsKey a b x y = (x ≡ min a b) × (y ≡ max a b)

either : (a b x y : ℕ) → IsKey a b x y → ((x ≡ a) × (y ≡ b)) ⊎ ((x ≡ b) × (y ≡ a))
either a b x y key = let k = key.0 in let l = key.1 in grind arith

-- what holds of two nodes in both orders holds of the key
along : (P : ℕ → ℕ → Type 0) (a b x y : ℕ) → IsKey a b x y → P a b → P b a → P x y
along P a b x y key p q = elim (either a b x y key) [
  | inl e ↦ subst (λ n. P n y) (sym e.0) (subst (P a) (sym e.1) p)
  | inr e ↦ subst (λ n. P n y) (sym e.0) (subst (P b) (sym e.1) q)
]

-- and the other way round
back : (P : ℕ → ℕ → Type 0) (a b x y : ℕ) → IsKey a b x y → P x y → P y x → P a b
back P a b x y key p q = elim (either a b x y key) [
  | inl e ↦ subst (λ n. P n b) e.0 (subst (P x) e.1 p)
  | inr e ↦ subst (λ n. P n b) e.1 (subst (P y) e.0 q)
]

turned : (g : List Content) (a b r : ℕ) → IsUnion g a b g r → IsUnion g b a g r
turned g a b r union s = ((λ h. swap ((union s).0 h)), (λ h. (union s).1 (swap h)))
  where
    swap : {A B : Type 0} → A ⊎ B → B ⊎ A
    swap (inl x) = inr x
    swap (inr x) = inl x

pub key_union : (g : List Content) (a b x y r : ℕ) → IsKey a b x y → IsUnion g a b g r → IsUnion g x y g r
key_union g a b x y r key union = along (λ m n. IsUnion g m n g r) a b x y key union (turned g a b r union)

pub key_left : (g : List Content) (a b x y : ℕ) → IsKey a b x y → IsNode g a → IsNode g b → IsNode g x
key_left g a b x y key a_in b_in = along (λ m n. IsNode g m) a b x y key a_in b_in

pub key_right : (g : List Content) (a b x y : ℕ) → IsKey a b x y → IsNode g a → IsNode g b → IsNode g y
key_right g a b x y key a_in b_in = along (λ m n. IsNode g n) a b x y key b_in a_in

pub union_key : (g : List Content) (a b x y r : ℕ) → IsKey a b x y → IsUnion g x y g r → IsUnion g a b g r
union_key g a b x y r key union = back (λ m n. IsUnion g m n g r) a b x y key union (turned g x y r union)

-- what two nodes were merged to has the lesser one as a part
pub key_part : (g : List Content) (a b x y r : ℕ) → IsKey a b x y → IsUnion g a b g r → IsPart g r x
key_part g a b x y r key union = along (λ m n. IsPart g r m) a b x y key (λ s h. (union s).1 (inl h)) (λ s h. (union s).1 (inr h))
