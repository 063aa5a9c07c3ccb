-- What is among the items of a list, and which numbers a sorted list has.
use Rattle.std.proofs.Common.{◌≡◌, ◌⊎◌, ◌<◌, ℕ, ◌==◌, List, [], ◌∷◌, Bool, true, false, ◌||◌, if◌then◌else◌, nat_lt, zero, suc, ◌+◌, ◌++◌, take, get_or, replicate, set, length, true≢false, ⊎_elim, refl, sym, ap, ◌∙◌, subst, inl, inr, arith, ◌≤◌, Option, None, Some, IfSome}
use Rattle.std.proofs.lemmas.Bool.Decides.{nat_tests}
use mathlib.Core.Option.{some, some-ne-none, some-injective}
use lib.ListN.{get_elem?}
use Rattle.g4_store.specs.Numbers.{Among, has, insert, union}

swap_or : (a b c : Bool) → a || (b || c) ≡ b || (a || c)
swap_or true true c = refl
swap_or true false c = refl
swap_or false true c = refl
swap_or false false c = refl

same_or : (a b : Bool) → a || b ≡ a || (a || b)
same_or true b = refl
same_or false b = refl

pub has-insert : (j i : ℕ) (xs : List ℕ) → has j (insert i xs) ≡ (j == i) || has j xs
has-insert j i [] = refl
has-insert j i (x ∷ xs) = go (has-insert j i xs) (nat_lt i x) (i == x) refl
  where
    go : has j (insert i xs) ≡ (j == i) || has j xs → (b c : Bool) → (i == x) ≡ c
        → has j (if b then i ∷ x ∷ xs else if c then x ∷ xs else x ∷ insert i xs) ≡ (j == i) || ((j == x) || has j xs)
    go ih true c e = refl
    go ih false true e = let same : i ≡ x = grind (arith, nat_tests) in
        subst (λ (k : ℕ). (j == x) || has j xs ≡ (j == k) || ((j == x) || has j xs)) (sym same) (same_or (j == x) (has j xs))
    go ih false false e = ap (λ t. (j == x) || t) ih ∙ swap_or (j == x) (j == i) (has j xs)

pub at_insert : (j i : ℕ) (xs : List ℕ) → has j (insert i xs) ≡ true → (j ≡ i) ⊎ (has j xs ≡ true)
at_insert j i xs e = go (j == i) refl (sym (has-insert j i xs) ∙ e)
  where
    go : (b : Bool) → (j == i) ≡ b → b || has j xs ≡ true → (j ≡ i) ⊎ (has j xs ≡ true)
    go true is h = inl (grind (arith, nat_tests))
    go false is h = inr h

pub here_insert : (i : ℕ) (xs : List ℕ) → has i (insert i xs) ≡ true
here_insert i xs = has-insert i i xs ∙ (let e : (i == i) ≡ true = grind (arith, nat_tests) in ap (λ b. b || has i xs) e)

pub more_insert : (j i : ℕ) (xs : List ℕ) → has j xs ≡ true → has j (insert i xs) ≡ true
more_insert j i xs e = has-insert j i xs ∙ (ap (λ b. (j == i) || b) e ∙ or_true (j == i))
  where
    or_true : (b : Bool) → b || true ≡ true
    or_true true = refl
    or_true false = refl

pub at_union : (j : ℕ) (xs ys : List ℕ) → has j (union xs ys) ≡ true → (has j xs ≡ true) ⊎ (has j ys ≡ true)
at_union j [] ys e = inr e
at_union j (x ∷ xs) ys e = first (at_union j xs ys) (at_insert j x (union xs ys) e)
  where
    head : j ≡ x → has j (x ∷ xs) ≡ true
    head is = let t : (j == x) ≡ true = grind (arith, nat_tests) in ap (λ b. b || has j xs) t

    tail : (b : Bool) → has j xs ≡ true → b || has j xs ≡ true
    tail true h = refl
    tail false h = h

    rest : (has j xs ≡ true) ⊎ (has j ys ≡ true) → (has j (x ∷ xs) ≡ true) ⊎ (has j ys ≡ true)
    rest (inl h) = inl (tail (j == x) h)
    rest (inr h) = inr h

    first : (has j (union xs ys) ≡ true → (has j xs ≡ true) ⊎ (has j ys ≡ true)) → (j ≡ x) ⊎ (has j (union xs ys) ≡ true)
        → (has j (x ∷ xs) ≡ true) ⊎ (has j ys ≡ true)
    first ih (inl is) = inl (head is)
    first ih (inr h) = rest (ih h)

take_next : (xs : List ℕ) (i x : ℕ) → get_elem? xs i ≡ some x → take (suc i) xs ≡ take i xs ++ x ∷ []
take_next [] i x e = absurd (some-ne-none x (sym e))
take_next (y ∷ ys) zero x e = ap (λ (z : ℕ). z ∷ []) (some-injective _ _ e)
take_next (y ∷ ys) (suc i) x e = ap (λ l. y ∷ l) (take_next ys i x e)

pub take_snoc : (xs : List ℕ) (i x : ℕ) → get_elem? xs i ≡ some x → take (i + 1) xs ≡ take i xs ++ x ∷ []
take_snoc xs i x e = let n : i + 1 ≡ suc i = omega arith in ap (λ (k : ℕ). take k xs) n ∙ take_next xs i x e

pub all_zero : (n i : ℕ) → get_or {A = ℕ} (replicate n 0) i 0 ≡ 0
all_zero zero i = refl
all_zero (suc n) zero = refl
all_zero (suc n) (suc i) = all_zero n i

or_true : (b : Bool) → b || true ≡ true
or_true true = refl
or_true false = refl

pub left_union : (j : ℕ) (xs ys : List ℕ) → has j xs ≡ true → has j (union xs ys) ≡ true
left_union j [] ys e = absurd (true≢false (sym e))
left_union j (x ∷ xs) ys e = has-insert j x (union xs ys) ∙ go (j == x) (left_union j xs ys) e
  where
    go : (b : Bool) → (has j xs ≡ true → has j (union xs ys) ≡ true) → b || has j xs ≡ true → b || has j (union xs ys) ≡ true
    go true ih h = refl
    go false ih h = ih h

pub right_union : (j : ℕ) (xs ys : List ℕ) → has j ys ≡ true → has j (union xs ys) ≡ true
right_union j [] ys e = e
right_union j (x ∷ xs) ys e = more_insert j x (union xs ys) (right_union j xs ys e)

module _ {A : Type 0} where
  pub set_there : (l : List A) (i : ℕ) (a b : A) → get_elem? l i ≡ some a → get_elem? (set l i b) i ≡ some b
  set_there [] i a b e = absurd (some-ne-none a (sym e))
  set_there (x ∷ xs) zero a b e = refl
  set_there (x ∷ xs) (suc i) a b e = set_there xs i a b e

  pub snoc_at : (l : List A) (a b : A) (j : ℕ) → get_elem? (l ++ a ∷ []) j ≡ some b → (get_elem? l j ≡ some b) ⊎ ((j ≡ length l) × (a ≡ b))
  snoc_at [] a b zero e = inr (refl, some-injective a b e)
  snoc_at [] a b (suc j) e = absurd (some-ne-none b (sym e))
  snoc_at (x ∷ xs) a b zero e = inl e
  snoc_at (x ∷ xs) a b (suc j) e = ⊎_elim (λ t. inl t) (λ t. inr (ap suc t.0, t.1)) (snoc_at xs a b j e)

  pub in_range : (l : List A) (i : ℕ) (a : A) → get_elem? l i ≡ some a → i < length l
  in_range [] i a e = absurd (some-ne-none a (sym e))
  in_range (x ∷ xs) zero a e = omega arith
  in_range (x ∷ xs) (suc i) a e = let h = in_range xs i a e in omega arith

  pub at_below : (l : List A) (i : ℕ) → i < length l → (a : A) × (get_elem? l i ≡ some a)
  at_below [] i lt = absurd (omega arith)
  at_below (x ∷ xs) zero lt = (x, refl)
  at_below (x ∷ xs) (suc i) lt = at_below xs i (omega arith)

  pub among_left : (a : A) (xs ys : List A) → Among a xs → Among a (xs ++ ys)
  among_left a [] ys m = absurd m
  among_left a (x ∷ xs) ys (inl e) = inl e
  among_left a (x ∷ xs) ys (inr m) = inr (among_left a xs ys m)

  pub among_right : (a : A) (xs ys : List A) → Among a ys → Among a (xs ++ ys)
  among_right a [] ys m = m
  among_right a (x ∷ xs) ys m = inr (among_right a xs ys m)

  pub among_either : (a : A) (xs ys : List A) → Among a (xs ++ ys) → Among a xs ⊎ Among a ys
  among_either a [] ys m = inr m
  among_either a (x ∷ xs) ys (inl e) = inl (inl e)
  among_either a (x ∷ xs) ys (inr m) = elim (among_either a xs ys m) [ inl l ↦ inl (inr l) | inr r ↦ inr r ]

  pub at_append : (a : A) (xs ys : List A) → Among a (xs ++ ys) → Among a xs ⊎ Among a ys
  at_append a [] ys m = inr m
  at_append a (x ∷ xs) ys (inl e) = inl (inl e)
  at_append a (x ∷ xs) ys (inr m) = ⊎_elim (λ t. inl (inr t)) (λ t. inr t) (at_append a xs ys m)

  pub get_or_there : (l : List A) (t : ℕ) (d : A) → t < length l → get_elem? l t ≡ some (get_or l t d)
  get_or_there [] t d lt = absurd (omega arith)
  get_or_there (x ∷ xs) zero d lt = refl
  get_or_there (x ∷ xs) (suc t) d lt = get_or_there xs t d (omega arith)

pub get_front : (xs ys : List ℕ) (j : ℕ) → j < length xs → get_or (xs ++ ys) j 0 ≡ get_or xs j 0
get_front [] ys j lt = absurd (omega arith)
get_front (x ∷ xs) ys zero lt = refl
get_front (x ∷ xs) ys (suc j) lt = get_front xs ys j (omega arith)

pub get_end : (xs : List ℕ) (s : ℕ) → get_or (xs ++ s ∷ []) (length xs) 0 ≡ s
get_end [] s = refl
get_end (x ∷ xs) s = get_end xs s

-- within a list it does not matter what is taken past its end
pub get_any : (xs : List ℕ) (j d e : ℕ) → j < length xs → get_or xs j d ≡ get_or xs j e
get_any [] j d e lt = absurd (omega arith)
get_any (x ∷ xs) zero d e lt = refl
get_any (x ∷ xs) (suc j) d e lt = get_any xs j d e (omega arith)

pub some_below : (r : Option ℕ) (n m : ℕ) → n ≤ m → IfSome r (λ t. t < n) → IfSome r (λ t. t < m)
some_below None n m le h = h
some_below (Some t) n m le h = omega arith
