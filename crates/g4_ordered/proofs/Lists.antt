-- Membership, by cases on the list.
use Rattle.std.proofs.Common.{◌≡◌, ℕ, ◌⊎◌, inl, inr, List, [], ◌∷◌, ◌++◌, map, refl, sym, ap, length, zero, suc, ◌<◌, get_or, arith, Contains}
use Rattle.g4_ordered.specs.Configurations.{In}

module _ {X : Type 0} where
  -- what is in the first of two lists is in both together
  pub In-left : (xs ys : List X) (x : X) → In x xs → In x (xs ++ ys)
  In-left [] ys x h = absurd h
  In-left (z ∷ xs) ys x (inl e) = inl e
  In-left (z ∷ xs) ys x (inr i) = inr (In-left xs ys x i)

  -- and so is what is in the second
  pub In-right : (xs ys : List X) (x : X) → In x ys → In x (xs ++ ys)
  In-right [] ys x h = h
  In-right (z ∷ xs) ys x h = inr (In-right xs ys x h)

  -- what is in both together is in the first or the second
  pub In-cases : (xs ys : List X) (x : X) → In x (xs ++ ys) → In x xs ⊎ In x ys
  In-cases [] ys x h = inr h
  In-cases (z ∷ xs) ys x (inl e) = inl (inl e)
  In-cases (z ∷ xs) ys x (inr i) = elim (In-cases xs ys x i) [ inl j ↦ inl (inr j) | inr j ↦ inr j ]

  -- what is in a list of one is that one
  pub only : (x y : X) → In y (x ∷ []) → y ≡ x
  only x y (inl is) = is
  only x y (inr no_place) = absurd no_place

  -- what has a place in the list is in it
  pub In-from : (xs : List X) (x : X) → Contains xs x → In x xs
  In-from xs x h = at xs h.0 h.1 h.2
    where
      at : (xs : List X) (k : ℕ) → k < length xs → get_or xs k x ≡ x → In x xs
      at [] k lt is = absurd (omega arith)
      at (y ∷ ys) zero lt is = inl (sym is)
      at (y ∷ ys) (suc k) lt is = inr (at ys k (omega arith) is)

  -- what is in the list has a place in it
  pub In-to : (ys : List X) (y : X) → In y ys → Contains ys y
  In-to [] y h = absurd h
  In-to (z ∷ zs) y (inl e) = (zero, omega arith, sym e)
  In-to (z ∷ zs) y (inr i) = let r = In-to zs y i in (suc r.0, omega (arith, r.1), r.2)

module _ {X Y : Type 0} (f : X → Y) where
  -- what is in the list of values is the value of a member
  pub In-map : (xs : List X) (y : Y) → In y (map f xs) → (x : X) × In x xs × (y ≡ f x)
  In-map [] y h = absurd h
  In-map (x ∷ xs) y (inl e) = (x, inl refl, e)
  In-map (x ∷ xs) y (inr i) = let r = In-map xs y i in (r.0, inr r.1, r.2)

  -- the value of a member is in the list of values
  pub map-In : (xs : List X) (x : X) → In x xs → In (f x) (map f xs)
  map-In [] x h = absurd h
  map-In (z ∷ xs) x (inl e) = inl (ap f e)
  map-In (z ∷ xs) x (inr i) = inr (map-In xs x i)
