-- Where the levels of each state are among those of all.
use Rattle.std.proofs.Common.{◌≡◌, ◌≤◌, ◌<◌, ◌⊎◌, inl, inr, ℕ, zero, suc, ◌+◌, List, [], ◌∷◌, ◌++◌, Option, Some, length, map, take, get_or, slice_get, slice_index, append_assoc, length-append, refl, sym, ◌∙◌, ap, subst, arith}
use Rattle.std.proofs.lemmas.List.{length-map, map-append, take_more}
use Rattle.std.specs.List.Sorted.{IsStrictlyIncreasing}
use Rattle.g4_learned.specs.Tables.{keys_from, places_from}

module _ {X : Type 0} where
  -- what is in the front part
  pub get_left : (xs ys : List X) (k : ℕ) (x : X) → slice_get xs k ≡ Some x → slice_get (xs ++ ys) k ≡ Some x
  get_left [] ys k x is = absurd (cc)
  get_left (z ∷ xs) ys zero x is = is
  get_left (z ∷ xs) ys (suc k) x is = get_left xs ys k x is

  -- and after it
  pub get_right : (xs ys : List X) (k : ℕ) (x : X) → slice_get ys k ≡ Some x → slice_get (xs ++ ys) (length xs + k) ≡ Some x
  get_right [] ys k x is = subst (λ (n : ℕ). slice_get ys n ≡ Some x) (let e : k ≡ 0 + k = omega arith in e) is
  get_right (z ∷ xs) ys k x is =
      let e : suc (length xs + k) ≡ suc (length xs) + k = omega arith in
      subst (λ (n : ℕ). slice_get (z ∷ (xs ++ ys)) n ≡ Some x) e (get_right xs ys k x is)

  -- what is in a list is in its front part or after it
  pub get_cases : (xs ys : List X) (k : ℕ) (x : X) → slice_get (xs ++ ys) k ≡ Some x
      → (slice_get xs k ≡ Some x) ⊎ ((m : ℕ) × (k ≡ length xs + m) × (slice_get ys m ≡ Some x))
  get_cases [] ys k x is = inr (k, (let e : k ≡ 0 + k = omega arith in e), is)
  get_cases (z ∷ xs) ys zero x is = inl is
  get_cases (z ∷ xs) ys (suc k) x is = elim (get_cases xs ys k x is) [
    | inl left ↦ inl left
    | inr right ↦ inr (right.0, (let r = right.1 in let e : suc k ≡ suc (length xs) + right.0 = omega (arith, r) in e), right.2)
  ]

get_map : (d : ℕ) (ls : List ℕ) (k l : ℕ) → slice_get ls k ≡ Some l
    → slice_get (map (λ (m : ℕ). let key : ℕ × ℕ = (d, m) in key) ls) k ≡ Some (d, l)
get_map d [] k l is = absurd (cc)
get_map d (m ∷ ls) zero l is = let e : m ≡ l = cc in ap (λ (n : ℕ). let key : Option (ℕ × ℕ) = Some (d, n) in key) e
get_map d (m ∷ ls) (suc k) l is = get_map d ls k l is

from_map : (d : ℕ) (ls : List ℕ) (k e l : ℕ) → slice_get (map (λ (m : ℕ). let key : ℕ × ℕ = (d, m) in key) ls) k ≡ Some (e, l)
    → (e ≡ d) × (slice_get ls k ≡ Some l)
from_map d [] k e l is = absurd (cc)
from_map d (m ∷ ls) zero e l is = let p : Path (ℕ × ℕ) (d, m) (e, l) = cc in (
  sym (ap (λ (q : ℕ × ℕ). q.0) p),
  ap (λ (q : ℕ × ℕ). let x : Option ℕ = Some q.1 in x) p,
)
from_map d (m ∷ ls) (suc k) e l is = from_map d ls k e l is

pub length_keys : (d : ℕ) (ls : List ℕ) → length (map (λ (m : ℕ). let key : ℕ × ℕ = (d, m) in key) ls) ≡ length ls
length_keys d ls = length-map ls (λ (m : ℕ). let key : ℕ × ℕ = (d, m) in key)

-- how many levels are before those of a state
pub before : List (List ℕ) → ℕ → ℕ
before [] j = 0
before (ls ∷ more) zero = 0
before (ls ∷ more) (suc j) = length ls + before more j

-- and how many there are
pub total : List (List ℕ) → ℕ
total [] = 0
total (ls ∷ more) = length ls + total more

places_head : (n : ℕ) (all : List (List ℕ)) → slice_get (places_from n all) 0 ≡ Some n
places_head n [] = refl
places_head n (ls ∷ more) = refl

-- the levels of a state begin and end at their places
pub low_at : (all : List (List ℕ)) (n j : ℕ) (ls : List ℕ) → slice_get all j ≡ Some ls
    → slice_get (places_from n all) j ≡ Some (n + before all j)
unfolding before
low_at [] n j ls is = absurd (cc)
low_at (m ∷ more) n zero ls is = ap (λ (x : ℕ). let y : Option ℕ = Some x in y) (let e : n ≡ n + 0 = omega arith in e)
low_at (m ∷ more) n (suc j) ls is = low_at more (n + length m) j ls is
    ∙ ap (λ (x : ℕ). let y : Option ℕ = Some x in y)
    (let e : n + length m + before more j ≡ n + (length m + before more j) = omega arith in e)

pub high_at : (all : List (List ℕ)) (n j : ℕ) (ls : List ℕ) → slice_get all j ≡ Some ls
    → slice_get (places_from n all) (suc j) ≡ Some (n + before all j + length ls)
unfolding before
high_at [] n j ls is = absurd (cc)
high_at (m ∷ more) n zero ls is =
    let same : m ≡ ls = cc in
    places_head (n + length m) more ∙ ap (λ (x : ℕ). let y : Option ℕ = Some x in y)
    (let l = ap length same in let e : n + length m ≡ n + 0 + length ls = omega (arith, l) in e)
high_at (m ∷ more) n (suc j) ls is = high_at more (n + length m) j ls is
    ∙ ap (λ (x : ℕ). let y : Option ℕ = Some x in y)
    (let e : n + length m + before more j + length ls ≡ n + (length m + before more j) + length ls = omega arith in e)

-- a level of a state is at its place among all
pub key_at : (all : List (List ℕ)) (d j m l : ℕ) (ls : List ℕ) → slice_get all j ≡ Some ls → slice_get ls m ≡ Some l
    → slice_get (keys_from d all) (before all j + m) ≡ Some (d + j, l)
unfolding before
key_at [] d j m l ls is at = absurd (cc)
key_at (k ∷ more) d zero m l ls is at =
    let same : k ≡ ls = cc in
    let here : slice_get k m ≡ Some l = subst (λ (xs : List ℕ). slice_get xs m ≡ Some l) (sym same) at in
    let e : m ≡ 0 + m = omega arith in
    let f : d ≡ d + 0 = omega arith in
    subst (λ (n : ℕ). slice_get (keys_from d (k ∷ more)) n ≡ Some (d + 0, l)) e
    (get_left (map (λ (x : ℕ). let key : ℕ × ℕ = (d, x) in key) k) (keys_from (suc d) more) m (d + 0, l)
    (subst (λ (n : ℕ). slice_get (map (λ (x : ℕ). let key : ℕ × ℕ = (d, x) in key) k) m ≡ Some (n, l)) f (get_map d k m l here)))
key_at (k ∷ more) d (suc j) m l ls is at =
    let f : suc d + j ≡ d + suc j = omega arith in
    let n = length_keys d k in
    let e : length (map (λ (x : ℕ). let key : ℕ × ℕ = (d, x) in key) k) + (before more j + m) ≡ length k + before more j + m =
    omega (arith, n) in
    subst (λ (n : ℕ). slice_get (keys_from d (k ∷ more)) n ≡ Some (d + suc j, l)) e
    (get_right (map (λ (x : ℕ). let key : ℕ × ℕ = (d, x) in key) k) (keys_from (suc d) more) (before more j + m) (d + suc j, l)
    (subst (λ (n : ℕ). slice_get (keys_from (suc d) more) (before more j + m) ≡ Some (n, l)) f
    (key_at more (suc d) j m l ls is at)))

-- and each is one of a state
pub record IsKeyAt (all : List (List ℕ)) (d i e l : ℕ) : Type 0 where
  pub state : ℕ
  pub levels : List ℕ
  pub place : ℕ
  pub has : slice_get all state ≡ Some levels
  pub at : slice_get levels place ≡ Some l
  pub is_state : e ≡ d + state
  pub is_place : i ≡ before all state + place

pub key_from : (all : List (List ℕ)) (d i e l : ℕ) → slice_get (keys_from d all) i ≡ Some (e, l) → IsKeyAt all d i e l
unfolding before
key_from [] d i e l is = absurd (cc)
key_from (k ∷ more) d i e l is =
    elim (get_cases (map (λ (x : ℕ). let key : ℕ × ℕ = (d, x) in key) k) (keys_from (suc d) more) i (e, l) is) [
      | inl left ↦ (let f = from_map d k i e l left in let s = f.0 in record {
        state = 0;
        levels = k;
        place = i;
        has = refl;
        at = f.1;
        is_state = (let x : e ≡ d + 0 = omega (arith, s) in x);
        is_place = (let x : i ≡ 0 + i = omega arith in x);
      })
      | inr right ↦ (let r = key_from more (suc d) right.0 e l right.2 in let s = r.is_state in let p = r.is_place in let q = right.1 in
          let n = length_keys d k in record {
            state = suc r.state;
            levels = r.levels;
            place = r.place;
            has = r.has;
            at = r.at;
            is_state = (let x : e ≡ d + suc r.state = omega (arith, s) in x);
            is_place = (let x : i ≡ length k + before more r.state + r.place = omega (arith, p, q, n) in x);
          })
    ]

-- there are as many keys as levels
pub count_keys : (d : ℕ) (all : List (List ℕ)) → length (keys_from d all) ≡ total all
unfolding total
count_keys d [] = refl
count_keys d (ls ∷ more) =
    let a = length-append (map (λ (m : ℕ). let key : ℕ × ℕ = (d, m) in key) ls) (keys_from (suc d) more) in
    let n = length_keys d ls in
    let r = count_keys (suc d) more in
    omega (arith, a, n, r)

-- those of one state more
pub keys_more : (d : ℕ) (all : List (List ℕ)) (ls : List ℕ) → keys_from d (all ++ ls ∷ [])
    ≡ keys_from d all ++ map (λ (m : ℕ). let key : ℕ × ℕ = (d + length all, m) in key) ls
keys_more d [] ls =
    let e : d ≡ d + 0 = omega arith in
    nothing_more (map (λ (m : ℕ). let key : ℕ × ℕ = (d, m) in key) ls)
    ∙ ap (λ (n : ℕ). map (λ (m : ℕ). let key : ℕ × ℕ = (n, m) in key) ls) e
  where
    nothing_more : (xs : List (ℕ × ℕ)) → xs ++ [] ≡ xs
    nothing_more [] = refl
    nothing_more (x ∷ xs) = ap (λ (l : List (ℕ × ℕ)). x ∷ l) (nothing_more xs)
keys_more d (k ∷ more) ls =
    let first : List (ℕ × ℕ) = map (λ (m : ℕ). let key : ℕ × ℕ = (d, m) in key) k in
    let e : suc d + length more ≡ d + suc (length more) = omega arith in
    ap (λ (l : List (ℕ × ℕ)). first ++ l) (keys_more (suc d) more ls ∙ ap (λ (n : ℕ). keys_from (suc d) more
    ++ map (λ (m : ℕ). let key : ℕ × ℕ = (n, m) in key) ls) e)
    ∙ sym (append_assoc first (keys_from (suc d) more) (map (λ (m : ℕ). let key : ℕ × ℕ = (d + suc (length more), m) in key) ls))

pub places_more : (n : ℕ) (all : List (List ℕ)) (ls : List ℕ) → places_from n (all ++ ls ∷ [])
    ≡ places_from n all ++ (n + total all + length ls) ∷ []
unfolding total
places_more n [] ls = ap (λ (x : ℕ). n ∷ x ∷ []) (let e : n + length ls ≡ n + 0 + length ls = omega arith in e)
places_more n (k ∷ more) ls = ap (λ (l : List ℕ). n ∷ l) (places_more (n + length k) more ls
    ∙ ap (λ (x : ℕ). places_from (n + length k) more ++ x ∷ [])
    (let e : n + length k + total more + length ls ≡ n + (length k + total more) + length ls = omega arith in e))

-- levels that rise
pub rising : (xs : List ℕ) (k n : ℕ) → IsStrictlyIncreasing xs → k + n < length xs → slice_index xs k ≤ slice_index xs (k + n)
rising xs k zero up less = subst (λ (m : ℕ). slice_index xs k ≤ slice_index xs m) (let e : k ≡ k + 0 = omega arith in e) (omega arith)
rising xs k (suc n) up less =
    let below = rising xs k n up (omega arith) in
    let step = up (k + n) (omega arith) in
    let e : k + n + 1 ≡ k + suc n = omega arith in
    subst (λ (m : ℕ). slice_index xs k ≤ slice_index xs m) e (omega (arith, below, step))

-- the keys of levels, collected one by one
pub more_keys : (d : ℕ) (levels : List ℕ) (k l : ℕ) (before_all old new : List (ℕ × ℕ)) → k < length levels
    → old ≡ before_all ++ map (λ (m : ℕ). let key : ℕ × ℕ = (d, m) in key) (take k levels) → new ≡ old ++ (d, get_or levels k l) ∷ []
    → new ≡ before_all ++ map (λ (m : ℕ). let key : ℕ × ℕ = (d, m) in key) (take (k + 1) levels)
more_keys d levels k l before_all old new less was is =
    let key : ℕ → ℕ × ℕ = λ (m : ℕ). let key : ℕ × ℕ = (d, m) in key in
    let last : ℕ × ℕ = (d, get_or levels k l) in
    is ∙ ap (λ (ks : List (ℕ × ℕ)). ks ++ last ∷ []) was
    ∙ append_assoc before_all (map key (take k levels)) (last ∷ [])
    ∙ ap (λ (ks : List (ℕ × ℕ)). before_all ++ ks)
    (sym (ap (map key) (take_more levels k l less) ∙ map-append key (take k levels) (get_or levels k l ∷ [])))
