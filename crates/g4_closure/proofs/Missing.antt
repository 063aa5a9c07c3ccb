-- A set that grew lacks fewer members of a list.
use Rattle.std.proofs.Common.{◌<◌, ◌≤◌, ◌⊎◌, inl, inr, List, [], ◌∷◌, sym, subst, arith}
use Rattle.g4_net.proofs.Pigeons.{In}
use Rattle.g4_closure.specs.Missing.{unless, missing}

module _ {X : Type 0} (P Q : X → Type 0) (p : (x : X) → Dec (P x)) (q : (x : X) → Dec (Q x)) (more : (x : X) → P x → Q x) where
  one : (x : X) (a : Dec (P x)) (b : Dec (Q x)) → unless b ≤ unless a
  one x (yes h) (yes k) = omega arith
  one x (yes h) (no k) = absurd (k (more x h))
  one x (no h) (yes k) = omega arith
  one x (no h) (no k) = omega arith

  -- a set that grew lacks no more
  pub no_more : (xs : List X) → missing Q q xs ≤ missing P p xs
  no_more [] = omega arith
  no_more (x ∷ xs) = let a = one x (p x) (q x) in let b = no_more xs in omega (arith, a, b)

  less : (x : X) (a : Dec (P x)) (b : Dec (Q x)) → (unless b < unless a) ⊎ (Q x → P x)
  less x (yes h) b = inr (λ k. h)
  less x (no h) (yes k) = inl (omega arith)
  less x (no h) (no k) = inr (λ l. absurd (k l))

  -- it lacks fewer, or it has no member of the list that it lacked
  pub fewer : (xs : List X) → (missing Q q xs < missing P p xs) ⊎ ((x : X) → In x xs → Q x → P x)
  fewer [] = inr (λ x i. absurd i)
  fewer (x ∷ xs) = first (less x (p x) (q x)) (fewer xs)
    where
      first : (unless (q x) < unless (p x)) ⊎ (Q x → P x) → (missing Q q xs < missing P p xs) ⊎ ((y : X) → In y xs → Q y → P y)
          → (missing Q q (x ∷ xs) < missing P p (x ∷ xs)) ⊎ ((y : X) → In y (x ∷ xs) → Q y → P y)
      first (inl lt) r = inl (let b = no_more xs in omega (arith, lt, b))
      first (inr h) (inl lt) = inl (let a = one x (p x) (q x) in omega (arith, lt, a))
      first (inr h) (inr k) = inr (λ y i. elim i [ inl e ↦ (λ l. subst P (sym e) (h (subst Q e l))) | inr j ↦ k y j ])
