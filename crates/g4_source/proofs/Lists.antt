-- Lists that loops make, a part at a time.
use Rattle.std.proofs.Common.{◌≡◌, ℕ, ◌+◌, ◌<◌, ◌≤◌, List, [], ◌∷◌, ◌++◌, length, map, take, drop, get_or, Option, Some, None, refl, sym, ap, ◌∙◌, append_assoc}
use Rattle.std.specs.List.{flat_map, filter_map, cons_option}
use Rattle.std.proofs.lemmas.List.{drop_all, drop_more, take_more, append-nil, map-append}
use Rattle.std.proofs.lemmas.List.Elements.{filter_map-append}

-- one more part of a list in order
pub parts_more : {X Y : Type 0} (F : X → List Y) (xs : List X) (i : ℕ) (x : X) (old new all : List Y) → i < length xs → x ≡ get_or xs i x
    → new ≡ old ++ F x → old ++ flat_map F (drop i xs) ≡ all → new ++ flat_map F (drop (i + 1) xs) ≡ all
parts_more F xs i x old new all within item made before =
    let rest : List _ = flat_map F (drop (i + 1) xs) in
    let next : drop i xs ≡ x ∷ drop (i + 1) xs = drop_more xs i x within ∙ ap (λ (z : _). z ∷ drop (i + 1) xs) (sym item) in
    ap (λ (ys : List _). ys ++ rest) made ∙ (append_assoc old (F x) rest ∙ (ap (λ (zs : List _). old ++ flat_map F zs) (sym next) ∙ before))

-- all parts are in the list
pub parts_all : {X Y : Type 0} (F : X → List Y) (xs : List X) (i : ℕ) (made all : List Y) → length xs ≤ i
    → made ++ flat_map F (drop i xs) ≡ all → made ≡ all
parts_all F xs i made all past before = sym (append-nil made)
    ∙ (ap (λ (ys : List _). made ++ flat_map F ys) (sym (drop_all i xs past)) ∙ before)

-- the parts of items that are lent
pub parts-map : {X Y Z : Type 0} (F : Y → List Z) (view : X → Y) (xs : List X) → flat_map F (map view xs) ≡ flat_map (λ x. F (view x)) xs
parts-map F view [] = refl
parts-map F view (x ∷ xs) = ap (λ (zs : List _). F (view x) ++ zs) (parts-map F view xs)

-- the images of items that are lent
pub map-map : {X Y Z : Type 0} (F : Y → Z) (view : X → Y) (xs : List X) → map F (map view xs) ≡ map (λ x. F (view x)) xs
map-map F view [] = refl
map-map F view (x ∷ xs) = ap (λ (zs : List _). F (view x) ∷ zs) (map-map F view xs)

-- one more image
pub pushed : {Y Z : Type 0} (h : Y → Z) (z : Z) (old new : List Y) {y : Y} → new ≡ old ++ y ∷ [] → h y ≡ z → map h new ≡ map h old ++ z ∷ []
pushed h z old new {y = y} is same = ap (map h) is ∙ (map-append h old (y ∷ []) ∙ ap (λ (x : _). map h old ++ x ∷ []) same)

module _ {X Y : Type 0} (F : X → Option Y) (xs : List X) (i : ℕ) (x : X) (old : List Y) (within : i < length xs) (item : x ≡ get_or xs i x)
    (before : old ≡ filter_map F (take i xs)) where
  -- the items that are picked up to this one
  picks : filter_map F (take (i + 1) xs) ≡ filter_map F (take i xs) ++ filter_map F (x ∷ [])
  picks = ap (filter_map F) (take_more xs i x within ∙ ap (λ (z : X). take i xs ++ z ∷ []) (sym item))
      ∙ filter_map-append F (take i xs) (x ∷ [])

  -- one more item that is picked
  pub picks_more : (y : Y) (new : List Y) → F x ≡ Some y → new ≡ old ++ y ∷ [] → new ≡ filter_map F (take (i + 1) xs)
  picks_more y new is made =
      let one : filter_map F (x ∷ []) ≡ y ∷ [] = rw is refl in
      made ∙ (ap (λ (zs : List Y). zs ++ y ∷ []) before ∙ (ap (λ (zs : List Y). filter_map F (take i xs) ++ zs) (sym one) ∙ sym picks))

  -- one more item that is not
  pub picks_same : F x ≡ None → old ≡ filter_map F (take (i + 1) xs)
  picks_same is =
      let one : filter_map F (x ∷ []) ≡ [] = rw is refl in
      before ∙ (sym (append-nil (filter_map F (take i xs))) ∙ (ap (λ (zs : List Y). filter_map F (take i xs) ++ zs) (sym one) ∙ sym picks))

-- what is picked of items that are lent
pub picks-map : {X Y Z : Type 0} (F : Y → Option Z) (view : X → Y) (xs : List X)
    → filter_map F (map view xs) ≡ filter_map (λ x. F (view x)) xs
picks-map F view [] = refl
picks-map F view (x ∷ xs) = ap (cons_option (F (view x))) (picks-map F view xs)
