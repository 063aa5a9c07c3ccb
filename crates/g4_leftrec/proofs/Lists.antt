-- Lists with their numbers, an item at a time.
use Rattle.std.proofs.Common.{◌≡◌, ℕ, zero, suc, ◌+◌, List, [], ◌∷◌, ◌++◌, Option, Some, None, length, map, refl, sym, ap, ◌∙◌, arith}
use Rattle.std.specs.List.{enumerate_from, filter_map, cons_option, range_with_len}
use Rattle.std.proofs.lemmas.List.{map-append}

-- one more item with its number
pub numbered_more : {X : Type 0} (n : ℕ) (xs : List X) (x : X) (j : ℕ) → j ≡ n + length xs
    → enumerate_from n (xs ++ x ∷ []) ≡ enumerate_from n xs ++ (j, x) ∷ []
numbered_more n [] x j e = let same : n ≡ j = omega (arith, e) in ap (λ (m : ℕ). (m, x) ∷ []) same
numbered_more n (y ∷ ys) x j e = let same : j ≡ n + 1 + length ys = omega (arith, e) in
    ap (λ (zs : List (ℕ × _)). (n, y) ∷ zs) (numbered_more (n + 1) ys x j same)

module _ {X Y : Type 0} (h : X → Option Y) where
  -- an item in front, if there is one
  cons_append : (o : Option Y) (xs ys : List Y) → cons_option o (xs ++ ys) ≡ cons_option o xs ++ ys
  cons_append None xs ys = refl
  cons_append (Some x) xs ys = refl

  -- what is kept of two lists
  pub filter_map-append : (xs ys : List X) → filter_map h (xs ++ ys) ≡ filter_map h xs ++ filter_map h ys
  filter_map-append [] ys = refl
  filter_map-append (x ∷ xs) ys = ap (cons_option (h x)) (filter_map-append xs ys) ∙ cons_append (h x) (filter_map h xs) (filter_map h ys)

-- what is made of what is kept of numbered items, with one more item
kept_more : {X Y Z : Type 0} (f : Y → Z) (h : ℕ × X → Option Y) (xs : List X) (x : X) (j : ℕ) → j ≡ length xs + 1 →
    map f (filter_map h (enumerate_from 1 (xs ++ x ∷ [])))
    ≡ map f (filter_map h (enumerate_from 1 xs)) ++ map f (filter_map h ((j, x) ∷ []))
kept_more {X} {Y} f h xs x j e =
    let at : j ≡ 1 + length xs = omega (arith, e) in
    ap (λ (zs : List (ℕ × X)). map f (filter_map h zs)) (numbered_more 1 xs x j at)
    ∙ (ap (map f) (filter_map-append h (enumerate_from 1 xs) ((j, x) ∷ []))
    ∙ map-append f (filter_map h (enumerate_from 1 xs)) (filter_map h ((j, x) ∷ [])))

-- the same where each item is kept
made_more : {X Z : Type 0} (f : ℕ × X → Z) (xs : List X) (x : X) (j : ℕ) → j ≡ length xs + 1
    → map f (enumerate_from 1 (xs ++ x ∷ [])) ≡ map f (enumerate_from 1 xs) ++ f (j, x) ∷ []
made_more {X} f xs x j e =
    let at : j ≡ 1 + length xs = omega (arith, e) in
    ap (map f) (numbered_more 1 xs x j at) ∙ map-append f (enumerate_from 1 xs) ((j, x) ∷ [])

-- the same of a list that they are, to which one is added
pub pushed_more : {X Z : Type 0} (f : ℕ × X → Z) (xs : List X) (x : X) (j : ℕ) (old new : List Z) (y : Z) → j ≡ length xs + 1
    → new ≡ old ++ y ∷ [] → y ≡ f (j, x) → old ≡ map f (enumerate_from 1 xs) → new ≡ map f (enumerate_from 1 (xs ++ x ∷ []))
pushed_more f xs x j old new y e pushed same before =
    pushed ∙ (ap (λ (zs : List _). zs ++ y ∷ []) before
    ∙ (ap (λ (z : _). map f (enumerate_from 1 xs) ++ z ∷ []) same ∙ sym (made_more f xs x j e)))

-- what is kept of one more item is added
pub added_more : {X Y Z : Type 0} (f : Y → Z) (h : ℕ × X → Option Y) (xs : List X) (x : X) (j : ℕ) (old new : List Z)
    → j ≡ length xs + 1 → new ≡ old ++ map f (filter_map h ((j, x) ∷ [])) →
    old ≡ map f (filter_map h (enumerate_from 1 xs)) → new ≡ map f (filter_map h (enumerate_from 1 (xs ++ x ∷ [])))
added_more f h xs x j old new e added before =
    added ∙ (ap (λ (zs : List _). zs ++ map f (filter_map h ((j, x) ∷ []))) before ∙ sym (kept_more f h xs x j e))

-- one more number
pub range_more : (n k j : ℕ) → n + k ≡ j → range_with_len n (k + 1) ≡ range_with_len n k ++ j ∷ []
range_more n zero j e = ap (λ (m : ℕ). m ∷ []) (omega (arith, e))
range_more n (suc k) j e = let same : suc k + 1 ≡ suc (k + 1) = omega arith in
    ap (range_with_len n) same ∙ ap (λ (ms : List ℕ). n ∷ ms) (range_more (n + 1) k j (omega (arith, e)))

-- the numbers of numbered items
pub numbers_of : {X : Type 0} (n : ℕ) (xs : List X) → map (λ x. x.0) (enumerate_from n xs) ≡ range_with_len n (length xs)
numbers_of n [] = refl
numbers_of n (x ∷ xs) = ap (λ (ms : List ℕ). n ∷ ms) (numbers_of (n + 1) xs)
