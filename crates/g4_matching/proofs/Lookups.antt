-- What is at a place of a list.
use Rattle.std.proofs.Common.{◌≡◌, ℕ, zero, suc, ◌<◌, ◌≤◌, ◌⊎◌, inl, inr, List, [], ◌∷◌, ◌++◌, Bool, true, false, Some, None, length, get_or, slice_get, take, reverse, refl, sym, ◌∙◌, ap, subst, arith}
use Rattle.std.proofs.lemmas.List.{reverse-append}
use Rattle.std.proofs.lemmas.Option.{slice_get-get_or, slice_get_past}
use Rattle.g4_ordered.specs.Configurations.{In}
use Rattle.g4_ordered.proofs.Lists.{In-left, In-right, In-cases}

-- what cannot be false is true
pub decide : (b : Bool) → (b ≡ false → ⊥) → b ≡ true
decide true h = refl
decide false h = absurd (h refl)

module _ {X : Type 0} where
  -- nothing is not something
  pub no_entry : (x : X) → None ≡ Some x → ⊥
  no_entry x h = cc

  -- one value is not another's
  pub same_some : (x y : X) → Some x ≡ Some y → x ≡ y
  same_some x y h = cc

  -- the first of two lists has its places in both together
  pub at_left : (xs ys : List X) (k : ℕ) (x : X) → slice_get xs k ≡ Some x → slice_get (xs ++ ys) k ≡ Some x
  at_left [] ys k x is = absurd (cc)
  at_left (z ∷ xs) ys zero x is = is
  at_left (z ∷ xs) ys (suc k) x is = at_left xs ys k x is

  -- the new last place has the new one
  pub at_last : (xs : List X) (x : X) → slice_get (xs ++ x ∷ []) (length xs) ≡ Some x
  at_last [] x = refl
  at_last (z ∷ xs) x = at_last xs x

  -- a place is an old one or the last
  pub at_cases : (xs : List X) (y x : X) (k : ℕ) → slice_get (xs ++ y ∷ []) k ≡ Some x
      → (slice_get xs k ≡ Some x) ⊎ ((k ≡ length xs) × (y ≡ x))
  at_cases [] y x zero is = inr (refl, cc)
  at_cases [] y x (suc k) is = absurd (cc)
  at_cases (z ∷ xs) y x zero is = inl is
  at_cases (z ∷ xs) y x (suc k) is = elim (at_cases xs y x k is) [ inl old ↦ inl old | inr new ↦ inr (ap suc new.0, new.1) ]

  -- what is at a place of a front is there in the whole
  pub in_front : (n : ℕ) (xs : List X) (k : ℕ) (x : X) → slice_get (take n xs) k ≡ Some x → (k < n) × (slice_get xs k ≡ Some x)
  in_front zero xs k x is = absurd (cc)
  in_front (suc n) [] k x is = absurd (cc)
  in_front (suc n) (z ∷ xs) zero x is = (omega arith, is)
  in_front (suc n) (z ∷ xs) (suc k) x is = let r = in_front n xs k x is in let lt = r.0 in (omega arith, r.1)

  -- and what is in the whole is in a front that goes past it
  pub to_front : (n : ℕ) (xs : List X) (k : ℕ) (x : X) → k < n → slice_get xs k ≡ Some x → slice_get (take n xs) k ≡ Some x
  to_front zero xs k x lt is = absurd (omega arith)
  to_front (suc n) [] k x lt is = absurd (cc)
  to_front (suc n) (z ∷ xs) zero x lt is = is
  to_front (suc n) (z ∷ xs) (suc k) x lt is = to_front n xs k x (omega arith) is

  -- what has a place is in the list
  pub in_at : (xs : List X) (k : ℕ) (x : X) → slice_get xs k ≡ Some x → In x xs
  in_at [] k x is = absurd (cc)
  in_at (z ∷ xs) zero x is = inl (sym (same_some z x is))
  in_at (z ∷ xs) (suc k) x is = inr (in_at xs k x is)

  -- what is in the list has a place
  pub at_in : (xs : List X) (x : X) → In x xs → (k : ℕ) × (slice_get xs k ≡ Some x)
  at_in [] x i = absurd i
  at_in (z ∷ xs) x (inl is) = (0, ap Some (sym is))
  at_in (z ∷ xs) x (inr i) = let r = at_in xs x i in (suc r.0, r.1)

  -- what a read gives is at its place
  pub got : (xs ys : List X) (k : ℕ) (x : X) → ys ≡ xs → k < length ys → x ≡ get_or ys k x → slice_get xs k ≡ Some x
  got xs ys k x same lt is = ap (λ (l : List X). slice_get l k) (sym same) ∙ slice_get-get_or ys k x lt ∙ ap Some (sym is)

  -- and past the end there is nothing
  pub got_none : (xs ys : List X) (k : ℕ) → ys ≡ xs → length ys ≤ k → slice_get xs k ≡ None
  got_none xs ys k same le = ap (λ (l : List X). slice_get l k) (sym same) ∙ slice_get_past ys k le

  -- what a read gives is in the list
  pub in_read : (xs : List X) (k : ℕ) (x : X) → k < length xs → x ≡ get_or xs k x → In x xs
  in_read xs k x lt is = in_at xs k x (got xs xs k x refl lt is)

  -- what is in a reversed list is in the list
  pub from_reverse : (xs : List X) (x : X) → In x (reverse xs) → In x xs
  from_reverse [] x i = i
  from_reverse (z ∷ xs) x i = elim (In-cases (reverse xs) (z ∷ []) x (subst (In x) (reverse-append (z ∷ []) xs) i)) [
    | inl j ↦ inr (from_reverse xs x j)
    | inr j ↦ elim j [ inl is ↦ inl is | inr no_place ↦ absurd no_place ]
  ]

  -- and the other way round
  pub to_reverse : (xs : List X) (x : X) → In x xs → In x (reverse xs)
  to_reverse [] x i = i
  to_reverse (z ∷ xs) x (inl is) = subst (In x) (sym (reverse-append (z ∷ []) xs)) (In-right (reverse xs) (z ∷ []) x (inl is))
  to_reverse (z ∷ xs) x (inr i) = subst (In x) (sym (reverse-append (z ∷ []) xs)) (In-left (reverse xs) (z ∷ []) x (to_reverse xs x i))
