-- The last thing that an item of a list gives.
use Rattle.std.proofs.Common.{◌≡◌, ℕ, ◌+◌, ◌<◌, List, [], ◌∷◌, ◌++◌, Option, Some, None, length, take, get_or, refl, sym, ap, ◌∙◌}
use Rattle.std.specs.List.{flat_map}
use Rattle.std.specs.Option.{option_map, option_or}
use Rattle.std.proofs.lemmas.Grind.{flat_map-append}
use Rattle.std.proofs.lemmas.List.{append-nil, take_more}
use Rattle.g4_fetch.specs.Vocabularies.{last_some}

or_none : {Y : Type 0} (a : Option Y) → option_or a None ≡ a
or_none None = refl
or_none (Some y) = refl

or_or : {Y : Type 0} (a b c : Option Y) → option_or (option_or a b) c ≡ option_or a (option_or b c)
or_or None b c = refl
or_or (Some y) b c = refl

-- seen through a function
pub map_or : {Y Z : Type 0} (v : Y → Z) (a b : Option Y) → option_map v (option_or a b) ≡ option_or (option_map v a) (option_map v b)
map_or v None b = refl
map_or v (Some y) b = refl

module _ {X Y : Type 0} (f : X → Option Y) where
  pub last_none : last_some f [] ≡ None
  unfolding last_some
  last_none = refl

  -- of two lists it is that of the second, if that has one
  pub last_append : (xs ys : List X) → last_some f (xs ++ ys) ≡ option_or (last_some f ys) (last_some f xs)
  unfolding last_some
  last_append [] ys = sym (or_none (last_some f ys))
  last_append (x ∷ xs) ys =
      ap (λ (o : Option Y). option_or o (f x)) (last_append xs ys) ∙ or_or (last_some f ys) (last_some f xs) (f x)

  -- with one item more
  pub last_more : (xs : List X) (i : ℕ) (x : X) → i < length xs → x ≡ get_or xs i x
      → last_some f (take (i + 1) xs) ≡ option_or (f x) (last_some f (take i xs))
  unfolding last_some
  last_more xs i x within is =
      ap (last_some f) (take_more xs i x within ∙ ap (λ (y : X). take i xs ++ y ∷ []) (sym is)) ∙ last_append (take i xs) (x ∷ [])

  -- over the lists that items have
  pub last_of_more : {W : Type 0} (parts : W → List X) (ws : List W) (i : ℕ) (w : W) → i < length ws → w ≡ get_or ws i w
      → last_some f (flat_map parts (take (i + 1) ws)) ≡ option_or (last_some f (parts w)) (last_some f (flat_map parts (take i ws)))
  last_of_more parts ws i w within is =
      ap (λ (xs : List X). last_some f xs)
      (ap (flat_map parts) (take_more ws i w within ∙ ap (λ v. take i ws ++ v ∷ []) (sym is))
      ∙ (flat_map-append parts (take i ws) (w ∷ [])
      ∙ ap (λ (xs : List X). flat_map parts (take i ws) ++ xs) (append-nil (parts w))))
      ∙ last_append (flat_map parts (take i ws)) (parts w)
