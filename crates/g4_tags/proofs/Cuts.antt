-- Lists cut in two.
use Rattle.std.proofs.Common.{◌≡◌, ◌<◌, ◌≤◌, ℕ, suc, ◌+◌, List, [], ◌∷◌, ◌++◌, Some, length, take, drop, get_or, slice_get, refl, sym, ◌∙◌, ap, arith}
use Rattle.std.proofs.lemmas.List.{drop_more, length-append, length-drop, take-append-drop}
use Rattle.std.proofs.lemmas.Option.{get_or_from_slice_get, slice_get_within}

-- what comes directly after the front of a list
pub slice_get_at : (xs ys : List ℕ) (c : ℕ) → slice_get (xs ++ c ∷ ys) (length xs) ≡ Some c
slice_get_at [] ys c = refl
slice_get_at (x ∷ xs) ys c = slice_get_at xs ys c

pub take_front : (xs ys : List ℕ) → take (length xs) (xs ++ ys) ≡ xs
take_front [] ys = refl
take_front (x ∷ xs) ys = ap (λ r. x ∷ r) (take_front xs ys)

pub drop_front : (xs ys : List ℕ) → drop (length xs) (xs ++ ys) ≡ ys
drop_front [] ys = refl
drop_front (x ∷ xs) ys = drop_front xs ys

-- and what is after that
pub drop_past : (xs ys : List ℕ) (c : ℕ) → drop (length xs + 1) (xs ++ c ∷ ys) ≡ ys
drop_past xs ys c = let one : length xs + 1 ≡ suc (length xs) = omega arith in
    ap (λ n. drop n (xs ++ c ∷ ys)) one ∙ go xs
  where
    go : (zs : List ℕ) → drop (suc (length zs)) (zs ++ c ∷ ys) ≡ ys
    go [] = refl
    go (z ∷ zs) = go zs

-- a list with an item at n is cut there
pub cut_at : (text : List ℕ) (n c : ℕ) → slice_get text n ≡ Some c → text ≡ take n text ++ c ∷ drop (n + 1) text
cut_at text n c is =
    let within : n < length text = slice_get_within text n c is in
    let item : get_or text n 0 ≡ c = get_or_from_slice_get text n c 0 is in
    sym (take-append-drop n text) ∙ ap (λ r. take n text ++ r) (drop_more text n 0 within ∙ ap (λ x. x ∷ drop (n + 1) text) item)

-- the same list by its parts
pub head_is : (c d : ℕ) (cs ds : List ℕ) → c ∷ cs ≡ d ∷ ds → c ≡ d
head_is c d cs ds is = cc

pub tail_is : (c d : ℕ) (cs ds : List ℕ) → c ∷ cs ≡ d ∷ ds → cs ≡ ds
tail_is c d cs ds is = cc

-- a front of a list before what is after n items has these items
pub front_is : (xs front : List ℕ) (n : ℕ) → xs ≡ front ++ drop n xs → n ≤ length xs → take n xs ≡ front
front_is xs front n is within =
    let left = length-drop n xs in
    let sum = length-append front (drop n xs) in
    let long : length xs ≡ length (front ++ drop n xs) = ap length is in
    let same : n ≡ length front = omega (arith, left, sum, long, within) in
    ap (λ k. take k xs) same ∙ ap (take (length front)) is ∙ take_front front (drop n xs)
