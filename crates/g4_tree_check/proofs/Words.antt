-- Words that are two words end to end.
use Rattle.std.proofs.Common.{◌≡◌, ◌⊎◌, inl, inr, List, [], ◌∷◌, ◌++◌, refl, sym, ap, subst}

module _ {W : Type 0} where
  -- a word of one kind, and then one of another
  abbrev pub Joined : (List W → Type 0) → (List W → Type 0) → List W → Type 0
  Joined P Q w = (u : List W) × (v : List W) × (w ≡ u ++ v) × P u × Q v

  -- the first word has the first letter, or it is empty
  pub first_letter : (P Q : List W → Type 0) (c : W) (w : List W) → Joined P Q (c ∷ w) → Joined (λ u. P (c ∷ u)) Q w ⊎ (P [] × Q (c ∷ w))
  first_letter P Q c w ([], v, is, p, q) = inr (p, subst Q (sym is) q)
  first_letter P Q c w (d ∷ u, v, is, p, q) =
      let first : d ≡ c = cc in
      let others : w ≡ u ++ v = cc in
      inl (u, v, others, subst (λ (x : W). P (x ∷ u)) first p, q)

  -- and back
  pub with_letter : (P Q : List W → Type 0) (c : W) (w : List W) → Joined (λ u. P (c ∷ u)) Q w → Joined P Q (c ∷ w)
  with_letter P Q c w (u, v, is, p, q) = (c ∷ u, v, ap (λ (x : List W). c ∷ x) is, p, q)

  pub after_nothing : (P Q : List W → Type 0) (w : List W) → P [] → Q w → Joined P Q w
  after_nothing P Q w p q = ([], w, refl, p, q)

  -- both are empty
  pub both_empty : (P Q : List W → Type 0) → Joined P Q [] → P [] × Q []
  both_empty P Q ([], v, is, p, q) = (p, subst Q (sym is) q)
  both_empty P Q (d ∷ u, v, is, p, q) = absurd (let n : ⊥ = cc in n)

  -- words of other kinds
  pub joined_others : (P Q R : List W → Type 0) (w : List W) → ((u : List W) → P u → R u) → Joined P Q w → Joined R Q w
  joined_others P Q R w f (u, v, is, p, q) = (u, v, is, f u p, q)
