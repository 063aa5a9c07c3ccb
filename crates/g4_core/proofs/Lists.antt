-- Lists by places, and what is among their items.
use Rattle.std.proofs.Common.{◌≡◌, ◌⊎◌, ℕ, zero, suc, ◌+◌, ◌*◌, ◌<◌, ◌≤◌, List, [], ◌∷◌, ◌++◌, length, set, get_or, replicate, refl, sym, ap, ◌∙◌, inl, inr, ⊎_elim, arith, suc-mul, mul-le-mul_right}
use native.Mathlib.Decide.{dec_le}
use mathlib.Core.Option as maybe
use mathlib.Core.Option.{some-ne-none, some-injective}
use lib.ListN.{get_elem?}
use Rattle.g4_store.specs.Numbers.{Among}

module _ {A : Type 0} where
  pub in_range : (l : List A) (i : ℕ) (a : A) → get_elem? l i ≡ maybe.some a → i < length l
  in_range [] i a e = absurd (some-ne-none a (sym e))
  in_range (x ∷ xs) zero a e = omega arith
  in_range (x ∷ xs) (suc i) a e = let h = in_range xs i a e in omega arith

  pub one_there : (l : List A) (i : ℕ) (a b : A) → get_elem? l i ≡ maybe.some a → get_elem? l i ≡ maybe.some b → a ≡ b
  one_there l i a b p q = some-injective a b (sym p ∙ q)

  pub there : (l : List A) (i : ℕ) (d : A) → i < length l → get_elem? l i ≡ maybe.some (get_or l i d)
  there [] i d lt = absurd (omega arith)
  there (x ∷ xs) zero d lt = refl
  there (x ∷ xs) (suc i) d lt = there xs i d (omega arith)

  pub there_is : (l : List A) (i : ℕ) → i < length l → (a : A) × (get_elem? l i ≡ maybe.some a)
  there_is [] i lt = absurd (omega arith)
  there_is (x ∷ xs) zero lt = (x, refl)
  there_is (x ∷ xs) (suc i) lt = there_is xs i (omega arith)

  pub got : (l : List A) (i : ℕ) (a d : A) → get_elem? l i ≡ maybe.some a → get_or l i d ≡ a
  got [] i a d e = absurd (some-ne-none a (sym e))
  got (x ∷ xs) zero a d e = some-injective x a e
  got (x ∷ xs) (suc i) a d e = got xs i a d e

  -- an item of a list of a list, as it was read
  pub read_at : (ls : List (List A)) (i q : ℕ) (inner : List A) (a : A) → q < length (get_or ls i []) → inner ≡ get_or ls i inner
      → a ≡ get_or inner q a → get_elem? (get_or ls i []) q ≡ maybe.some a
  read_at [] i q inner a lt e f = absurd (omega arith)
  read_at (x ∷ xs) zero q inner a lt e f = there x q a lt ∙ ap maybe.some (sym (f ∙ ap (λ (l : List A). get_or l q a) e))
  read_at (x ∷ xs) (suc i) q inner a lt e f = read_at xs i q inner a lt e f

  pub set_there : (l : List A) (i : ℕ) (a : A) → i < length l → get_elem? (set l i a) i ≡ maybe.some a
  set_there [] i a lt = absurd (omega arith)
  set_there (x ∷ xs) zero a lt = refl
  set_there (x ∷ xs) (suc i) a lt = set_there xs i a (omega arith)

  pub set_other : (l : List A) (i j : ℕ) (a : A) → (j ≡ i → ⊥) → get_elem? (set l i a) j ≡ get_elem? l j
  set_other [] i j a ne = refl
  set_other (x ∷ xs) zero zero a ne = absurd (ne refl)
  set_other (x ∷ xs) zero (suc j) a ne = refl
  set_other (x ∷ xs) (suc i) zero a ne = refl
  set_other (x ∷ xs) (suc i) (suc j) a ne = set_other xs i j a (λ e. ne (ap suc e))

  -- what is there after a write: what was written, or what was there
  pub set_at : (l : List A) (i j : ℕ) (a b : A) → get_elem? (set l i a) j ≡ maybe.some b
      → ((j ≡ i) × (b ≡ a)) ⊎ ((j ≡ i → ⊥) × (get_elem? l j ≡ maybe.some b))
  set_at [] i j a b e = absurd (some-ne-none b (sym e))
  set_at (x ∷ xs) zero zero a b e = inl (refl, sym (some-injective a b e))
  set_at (x ∷ xs) zero (suc j) a b e = inr ((λ h. omega arith), e)
  set_at (x ∷ xs) (suc i) zero a b e = inr ((λ h. omega arith), e)
  set_at (x ∷ xs) (suc i) (suc j) a b e = ⊎_elim
      (λ (h : (j ≡ i) × (b ≡ a)). inl (ap suc h.0, h.1))
      (λ (h : (j ≡ i → ⊥) × (get_elem? xs j ≡ maybe.some b)). inr ((λ k. h.0 (omega arith)), h.1))
      (set_at xs i j a b e)

  pub longer : (l m : List A) (i : ℕ) (a : A) → get_elem? l i ≡ maybe.some a → get_elem? (l ++ m) i ≡ maybe.some a
  longer [] m i a e = absurd (some-ne-none a (sym e))
  longer (x ∷ xs) m zero a e = e
  longer (x ∷ xs) m (suc i) a e = longer xs m i a e

  pub at_end : (l : List A) (a : A) → get_elem? (l ++ a ∷ []) (length l) ≡ maybe.some a
  at_end [] a = refl
  at_end (x ∷ xs) a = at_end xs a

  pub snoc_at : (l : List A) (a b : A) (j : ℕ) → get_elem? (l ++ a ∷ []) j ≡ maybe.some b
      → (get_elem? l j ≡ maybe.some b) ⊎ ((j ≡ length l) × (a ≡ b))
  snoc_at [] a b zero e = inr (refl, some-injective a b e)
  snoc_at [] a b (suc j) e = absurd (some-ne-none b (sym e))
  snoc_at (x ∷ xs) a b zero e = inl e
  snoc_at (x ∷ xs) a b (suc j) e = ⊎_elim (λ t. inl t) (λ t. inr (ap suc t.0, t.1)) (snoc_at xs a b j e)

  pub all_same : (n i : ℕ) (a b : A) → get_elem? (replicate n a) i ≡ maybe.some b → b ≡ a
  all_same zero i a b e = absurd (some-ne-none b (sym e))
  all_same (suc n) zero a b e = sym (some-injective a b e)
  all_same (suc n) (suc i) a b e = all_same n i a b e

  pub among_left : (a : A) (xs ys : List A) → Among a xs → Among a (xs ++ ys)
  among_left a [] ys m = absurd m
  among_left a (x ∷ xs) ys (inl e) = inl e
  among_left a (x ∷ xs) ys (inr m) = inr (among_left a xs ys m)

  pub among_right : (a : A) (xs ys : List A) → Among a ys → Among a (xs ++ ys)
  among_right a [] ys m = m
  among_right a (x ∷ xs) ys m = inr (among_right a xs ys m)

  pub at_append : (a : A) (xs ys : List A) → Among a (xs ++ ys) → Among a xs ⊎ Among a ys
  at_append a [] ys m = inr m
  at_append a (x ∷ xs) ys (inl e) = inl (inl e)
  at_append a (x ∷ xs) ys (inr m) = ⊎_elim (λ t. inl (inr t)) (λ t. inr t) (at_append a xs ys m)

  pub place_of : (a : A) (xs : List A) → Among a xs → (i : ℕ) × (get_elem? xs i ≡ maybe.some a)
  place_of a [] m = absurd m
  place_of a (x ∷ xs) (inl e) = (zero, ap maybe.some (sym e))
  place_of a (x ∷ xs) (inr m) = let p = place_of a xs m in (suc p.0, p.1)

  pub among_there : (xs : List A) (i : ℕ) (a : A) → get_elem? xs i ≡ maybe.some a → Among a xs
  among_there [] i a e = absurd (some-ne-none a (sym e))
  among_there (x ∷ xs) zero a e = inl (sym (some-injective x a e))
  among_there (x ∷ xs) (suc i) a e = inr (among_there xs i a e)

  -- a list without one of its items
  record Without (a : A) (xs : List A) : Type 0 where
    rest : List A
    count : length xs ≡ suc (length rest)
    others : (b : A) → Among b xs → (b ≡ a) ⊎ Among b rest

  without : (a : A) (xs : List A) → Among a xs → Without a xs
  without a [] m = absurd m
  without a (x ∷ xs) (inl e) =
      record { rest = xs; count = refl; others = λ b m. ⊎_elim (λ (h : b ≡ x). inl (h ∙ sym e)) (λ (h : Among b xs). inr h) m }
  without a (x ∷ xs) (inr n) =
      let w = without a xs n in
      record {
        rest = x ∷ w.rest;
        count = ap suc w.count;
        others = λ b m. ⊎_elim
            (λ (h : b ≡ x). inr (inl h))
            (λ (h : Among b xs). ⊎_elim (λ (k : b ≡ a). inl k) (λ (k : Among b w.rest). inr (inr k)) (w.others b h)) m;
      }

  -- items that differ, each among others, are no more than these
  pub no_more : (zs xs : List A)
      → ((r q : ℕ) (z : A) → get_elem? zs r ≡ maybe.some z → get_elem? zs q ≡ maybe.some z → r ≡ q)
      → ((z : A) → Among z zs → Among z xs) → length zs ≤ length xs
  no_more [] xs differ all = omega arith
  no_more (z ∷ zs) xs differ all =
      let w = without z xs (all z (inl refl)) in
      let apart : (y : A) → Among y zs → y ≡ z → ⊥ =
      λ y m e. let p = place_of y zs m in let bad : zero ≡ suc p.0 = differ zero (suc p.0) z refl (p.1 ∙ ap maybe.some e) in omega arith in
      let less : length zs ≤ length w.rest =
      no_more zs w.rest (λ r q y a b. let e : suc r ≡ suc q = differ (suc r) (suc q) y a b in omega arith)
      (λ y m. ⊎_elim (λ (e : y ≡ z). absurd (apart y m e)) (λ (h : Among y w.rest). h) (w.others y (all y (inr m)))) in
      let count = w.count in
      omega arith

-- a cell of an earlier row lies before those of a later row
before : (n r q s t : ℕ) → s < n → r < q → r * n + s < q * n + t
before n r q s t lt h = let a : suc r * n ≤ q * n = mul-le-mul_right n h in omega (arith, suc-mul r n)

-- two cells with one number are one
pub same_cell : (n r q s t : ℕ) → s < n → t < n → r * n + s ≡ q * n + t → (r ≡ q) × (s ≡ t)
same_cell n r q s t ls lt e = go (dec_le r q) (dec_le q r)
  where
    go : Dec (r ≤ q) → Dec (q ≤ r) → (r ≡ q) × (s ≡ t)
    go (yes a) (yes b) = let same : r ≡ q = omega arith in (same, (let f : r * n ≡ q * n = ap (λ (k : ℕ). k * n) same in omega arith))
    go (no a) d = absurd (let h : q < r = omega arith in let f = before n q r t s lt h in omega arith)
    go (yes a) (no b) = absurd (let h : r < q = omega arith in let f = before n r q s t ls h in omega arith)

-- the cell of a row and a column is within
pub cell_within : (n m r s : ℕ) → r < m → s < n → r * n + s < m * n
cell_within n m r s lr ls = let a : suc r * n ≤ m * n = mul-le-mul_right n lr in omega (arith, suc-mul r n)
