-- The first of each name in a list, one name more at a time.
use Rattle.std.proofs.Common.{◌≡◌, ℕ, ◌+◌, ◌<◌, ◌≤◌, not, List, [], ◌∷◌, ◌++◌, length, take, get_or, Bool, true, false, cond, Option, Some, None, Result, Ok, Err, refl, sym, ap, ◌∙◌, arith}
use Rattle.std.specs.List.{position, position_or_len}
use Rattle.std.specs.Option.{is_some, option_or, unwrap_or}
use Rattle.std.specs.Result.{OnErr}
use Rattle.std.specs.Str.{bytes_eq}
use Rattle.std.proofs.lemmas.Bool.Decides.{nat_tests}
use Rattle.std.proofs.lemmas.List.{take_more, length-take, length-append}
use Rattle.std.proofs.lemmas.List.Folds.{position_or_len_push}
use Rattle.std.proofs.lemmas.List.Sums.{prefix_len-le-length}
use Rattle.std.proofs.lemmas.Slice.Eq.{bytes_eq-Decides}
use Rattle.g4_names.specs.declared.places.Places.{Places}
use Rattle.g4_names.specs.Places.{ArePlaces, place_in}

-- what holds anyway, holds where there is an error
pub on_err : {T E P : Type 0} (r : Result T E) → P → OnErr r P
on_err (Ok value) holds = tt
on_err (Err error) holds = holds

-- or nothing
or_none : (o : Option ℕ) → option_or o None ≡ o
or_none None = refl
or_none (Some k) = refl

-- a name that is not there is given a number
pub new_name : (old : List ℕ → Option ℕ) (name : List ℕ) (number : ℕ) → is_some (old name) ≡ false → (other : List ℕ)
    → cond (bytes_eq name other) (Some number) (old other) ≡ option_or (old other) (cond (bytes_eq name other) (Some number) None)
new_name old name number absent other = by (bytes_eq name other) (old other) refl refl
  where
    by : (b : Bool) (o : Option ℕ) → bytes_eq name other ≡ b → old other ≡ o
        → cond b (Some number) o ≡ option_or o (cond b (Some number) None)
    by true None e f = refl
    by true (Some k) e f =
        let same : name ≡ other = (bytes_eq-Decides name other).0 e in
        let there : is_some (old name) ≡ true = ap (λ (n : List ℕ). is_some (old n)) same ∙ ap (λ (o : Option ℕ). is_some o) f in cc
    by false o e f = sym (or_none o)

-- a name that is there keeps its number
pub old_name : (old : List ℕ → Option ℕ) (name : List ℕ) (number : ℕ) → is_some (old name) ≡ true → (other : List ℕ)
    → old other ≡ option_or (old other) (cond (bytes_eq name other) (Some number) None)
old_name old name number there other = by (bytes_eq name other) (old other) refl refl
  where
    by : (b : Bool) (o : Option ℕ) → bytes_eq name other ≡ b → old other ≡ o → o ≡ option_or o (cond b (Some number) None)
    by true None e f =
        let same : name ≡ other = (bytes_eq-Decides name other).0 e in
        let absent : is_some (old name) ≡ false = ap (λ (n : List ℕ). is_some (old n)) same ∙ ap (λ (o : Option ℕ). is_some o) f in cc
    by true (Some k) e f = refl
    by false o e f = sym (or_none o)

-- the first that passes has a place below the length, if any passes
position_or_len-within : {X : Type 0} (p : X → Bool) (xs : List X) → position_or_len p xs ≤ length xs
position_or_len-within p xs = prefix_len-le-length (λ y. not (p y)) xs

-- the place of the first item that passes, with one item more
pub position-push : {X : Type 0} (p : X → Bool) (xs : List X) (x : X)
    → position p (xs ++ x ∷ []) ≡ option_or (position p xs) (cond (p x) (Some (length xs)) None)
position-push p xs x =
    let short = position_or_len-within p xs in
    let next = position_or_len_push p xs x in
    let long = length-append xs (x ∷ []) in
    grind (arith, nat_tests)

-- the place that is found, or the length
pub unwrap_or-position : {X : Type 0} (p : X → Bool) (xs : List X) → unwrap_or (position p xs) (length xs) ≡ position_or_len p xs
unwrap_or-position p xs =
    let short = position_or_len-within p xs in
    grind (arith, nat_tests)

-- the places of the names before an index, with the next name
pub one_more : (names : List (List ℕ)) (i : ℕ) (item name : List ℕ) (old new : Places) → i < length names → item ≡ get_or names i item
    → name ≡ item → ArePlaces (take i names) old →
    ((other : List ℕ) → place_in new other ≡ option_or (place_in old other) (cond (bytes_eq name other) (Some i) None))
    → ArePlaces (take (i + 1) names) new
one_more names i item name old new within is same before added other =
    let front : List (List ℕ) = take i names in
    let test : List ℕ → Bool = λ (n : List ℕ). bytes_eq n other in
    let next : take (i + 1) names ≡ front ++ name ∷ [] =
    take_more names i item within ∙ ap (λ (n : List ℕ). front ++ n ∷ []) (sym (same ∙ is)) in
    let long : length front ≡ i = omega (arith, length-take i names) in
    added other
    ∙ (ap (λ (o : Option ℕ). option_or o (cond (bytes_eq name other) (Some i) None)) (before other)
    ∙ (ap (λ (n : ℕ). option_or (position test front) (cond (bytes_eq name other) (Some n) None)) (sym long)
    ∙ (sym (position-push test front name) ∙ ap (position test) (sym next))))
