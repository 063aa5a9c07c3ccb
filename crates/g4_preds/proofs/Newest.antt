-- Lists that are seen newest first.
use Rattle.std.proofs.Common.{◌≡◌, ℕ, suc, ◌-◌, List, [], ◌∷◌, ◌++◌, length, drop, take, slice_get, refl, ap, sym, ◌∙◌, arith}
use Rattle.g4_preds.specs.Newest.{newest_first, newest}

-- what is added comes first
pub newest_first-push : {A : Type 0} (xs : List A) (x : A) → newest_first (xs ++ x ∷ []) ≡ x ∷ newest_first xs
newest_first-push [] x = refl
newest_first-push (y ∷ ys) x = ap (λ zs. zs ++ y ∷ []) (newest_first-push ys x)

newest-append : {A : Type 0} (xs : List A) (y x : A) → newest ((xs ++ y ∷ []) ++ x ∷ []) ≡ newest (xs ++ y ∷ [])
newest-append [] y x = refl
newest-append (z ∷ zs) y x = refl

one_less : (n : ℕ) → suc (suc n) - 1 ≡ suc (suc n - 1)
one_less n = omega arith

-- the newest is the last
pub newest-last : {A : Type 0} (xs : List A) → slice_get xs (length xs - 1) ≡ newest (newest_first xs)
newest-last [] = refl
newest-last (x ∷ []) = refl
newest-last (x ∷ y ∷ zs) = ap (slice_get (x ∷ y ∷ zs)) (one_less (length zs)) ∙ newest-last (y ∷ zs)
    ∙ sym (newest-append (newest_first zs) y x)

drop-append : {A : Type 0} (xs : List A) (y x : A) → drop 1 ((xs ++ y ∷ []) ++ x ∷ []) ≡ drop 1 (xs ++ y ∷ []) ++ x ∷ []
drop-append [] y x = refl
drop-append (z ∷ zs) y x = refl

-- without the last, the newest is away
pub newest_first-take : {A : Type 0} (xs : List A) → newest_first (take (length xs - 1) xs) ≡ drop 1 (newest_first xs)
newest_first-take [] = refl
newest_first-take (x ∷ []) = refl
newest_first-take (x ∷ y ∷ zs) = ap (λ n. newest_first (take n (x ∷ y ∷ zs))) (one_less (length zs))
    ∙ ap (λ us. us ++ x ∷ []) (newest_first-take (y ∷ zs)) ∙ sym (drop-append (newest_first zs) y x)
