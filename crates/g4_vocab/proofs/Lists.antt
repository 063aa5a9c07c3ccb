-- Lists that loops make, a step at a time.
use Rattle.std.proofs.Common.{◌≡◌, ℕ, ◌+◌, ◌<◌, ◌≤◌, List, [], ◌∷◌, ◌++◌, length, map, take, drop, get_or, Option, Some, None, Bool, true, false, not, refl, sym, ap, ◌∙◌, append_assoc}
use Rattle.std.specs.List.{flat_map, filter_map}
use Rattle.std.specs.Option.{is_some, is_none}
use Rattle.std.proofs.lemmas.List.{append-nil, drop_all, drop_more, map-append, take_more}
use Rattle.std.proofs.lemmas.List.Elements.{filter_map-append}

-- one more part of a list in order
pub parts_more : {X Y : Type 0} (F : X → List Y) (xs : List X) (i : ℕ) (x : X) (old new all : List Y) → i < length xs
    → x ≡ get_or xs i x → new ≡ old ++ F x → old ++ flat_map F (drop i xs) ≡ all → new ++ flat_map F (drop (i + 1) xs) ≡ all
parts_more F xs i x old new all within item made before =
    let rest : List _ = flat_map F (drop (i + 1) xs) in
    let next : drop i xs ≡ x ∷ drop (i + 1) xs = drop_more xs i x within ∙ ap (λ (z : _). z ∷ drop (i + 1) xs) (sym item) in
    ap (λ (ys : List _). ys ++ rest) made ∙ (append_assoc old (F x) rest ∙ (ap (λ (zs : List _). old ++ flat_map F zs) (sym next) ∙ before))

-- all parts are in the list
pub parts_all : {X Y : Type 0} (F : X → List Y) (xs : List X) (i : ℕ) (made all : List Y) → length xs ≤ i
    → made ++ flat_map F (drop i xs) ≡ all → made ≡ all
parts_all F xs i made all past before = sym (append-nil made)
    ∙ (ap (λ (ys : List _). made ++ flat_map F ys) (sym (drop_all i xs past)) ∙ before)

-- one more item that is picked
pub picks_more : {X Y : Type 0} (F : X → Option Y) (xs : List X) (i : ℕ) (x : X) (y : Y) (start old new : List Y) → i < length xs
    → x ≡ get_or xs i x → F x ≡ Some y → new ≡ old ++ y ∷ [] → old ≡ start ++ filter_map F (take i xs)
    → new ≡ start ++ filter_map F (take (i + 1) xs)
picks_more F xs i x y start old new within item is pushed before =
    let next : take (i + 1) xs ≡ take i xs ++ x ∷ [] = take_more xs i x within ∙ ap (λ (z : _). take i xs ++ z ∷ []) (sym item) in
    let one : filter_map F (x ∷ []) ≡ y ∷ [] = rw is refl in
    pushed ∙ (ap (λ (zs : List _). zs ++ y ∷ []) before ∙ (append_assoc start (filter_map F (take i xs)) (y ∷ [])
    ∙ (ap (λ (zs : List _). start ++ (filter_map F (take i xs) ++ zs)) (sym one)
    ∙ (ap (λ (zs : List _). start ++ zs) (sym (filter_map-append F (take i xs) (x ∷ [])))
    ∙ ap (λ (ys : List _). start ++ filter_map F ys) (sym next)))))

-- one more item that is not
pub picks_same : {X Y : Type 0} (F : X → Option Y) (xs : List X) (i : ℕ) (x : X) (start old : List Y) → i < length xs
    → x ≡ get_or xs i x → F x ≡ None → old ≡ start ++ filter_map F (take i xs) → old ≡ start ++ filter_map F (take (i + 1) xs)
picks_same F xs i x start old within item is before =
    let next : take (i + 1) xs ≡ take i xs ++ x ∷ [] = take_more xs i x within ∙ ap (λ (z : _). take i xs ++ z ∷ []) (sym item) in
    let one : filter_map F (x ∷ []) ≡ [] = rw is refl in
    before ∙ (ap (λ (zs : List _). start ++ zs) (sym (append-nil (filter_map F (take i xs))))
    ∙ (ap (λ (zs : List _). start ++ (filter_map F (take i xs) ++ zs)) (sym one)
    ∙ (ap (λ (zs : List _). start ++ zs) (sym (filter_map-append F (take i xs) (x ∷ [])))
    ∙ ap (λ (ys : List _). start ++ filter_map F ys) (sym next))))

-- there is no value where the test says so
pub is_none-by : {X : Type 0} (o : Option X) (r b : Bool) → is_some o ≡ not r → r ≡ b → is_none o ≡ b
is_none-by o true b e f = ap not e ∙ f
is_none-by o false b e f = ap not e ∙ f

-- what is picked of the items as they are seen
seen_more : {X Y Z : Type 0} (F : Y → Option Z) (view : X → Y) (xs : List X) (i : ℕ) (x : X) → i < length xs → x ≡ get_or xs i x
    → filter_map F (map view (take (i + 1) xs)) ≡ filter_map F (map view (take i xs)) ++ filter_map F (view x ∷ [])
seen_more F view xs i x within item =
    ap (λ (ys : List _). filter_map F (map view ys)) (take_more xs i x within ∙ ap (λ (z : _). take i xs ++ z ∷ []) (sym item))
    ∙ (ap (filter_map F) (map-append view (take i xs) (x ∷ [])) ∙ filter_map-append F (map view (take i xs)) (view x ∷ []))

pub sights_more : {X Y Z : Type 0} (F : Y → Option Z) (view : X → Y) (xs : List X) (i : ℕ) (x : X) (z : Z) (start old new : List Z)
    → i < length xs → x ≡ get_or xs i x → F (view x) ≡ Some z → new ≡ old ++ z ∷ [] → old ≡ start ++ filter_map F (map view (take i xs))
    → new ≡ start ++ filter_map F (map view (take (i + 1) xs))
sights_more F view xs i x z start old new within item is pushed before =
    let one : filter_map F (view x ∷ []) ≡ z ∷ [] = rw is refl in
    pushed ∙ (ap (λ (zs : List _). zs ++ z ∷ []) before
    ∙ (append_assoc start (filter_map F (map view (take i xs))) (z ∷ [])
    ∙ ap (λ (zs : List _). start ++ zs)
    (ap (λ (zs : List _). filter_map F (map view (take i xs)) ++ zs) (sym one) ∙ sym (seen_more F view xs i x within item))))

pub sights_same : {X Y Z : Type 0} (F : Y → Option Z) (view : X → Y) (xs : List X) (i : ℕ) (x : X) (start old : List Z)
    → i < length xs → x ≡ get_or xs i x → F (view x) ≡ None → old ≡ start ++ filter_map F (map view (take i xs))
    → old ≡ start ++ filter_map F (map view (take (i + 1) xs))
sights_same F view xs i x start old within item is before =
    let none : filter_map F (view x ∷ []) ≡ [] = rw is refl in
    before ∙ ap (λ (zs : List _). start ++ zs)
    (sym (append-nil (filter_map F (map view (take i xs))))
    ∙ (ap (λ (zs : List _). filter_map F (map view (take i xs)) ++ zs) (sym none) ∙ sym (seen_more F view xs i x within item)))

-- what is made of the items as they are seen
pub made_more : {X Y Z : Type 0} (f : Y → Z) (view : X → Y) (xs : List X) (i : ℕ) (x : X) → i < length xs → x ≡ get_or xs i x
    → map f (map view (take (i + 1) xs)) ≡ map f (map view (take i xs)) ++ f (view x) ∷ []
made_more f view xs i x within item =
    ap (λ (ys : List _). map f (map view ys)) (take_more xs i x within ∙ ap (λ (z : _). take i xs ++ z ∷ []) (sym item))
    ∙ (ap (map f) (map-append view (take i xs) (x ∷ [])) ∙ map-append f (map view (take i xs)) (view x ∷ []))
