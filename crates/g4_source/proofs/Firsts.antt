-- The first item of which something is reported, looked for in order.
use Rattle.std.proofs.Common.{◌≡◌, ℕ, ◌+◌, ◌<◌, ◌≤◌, List, [], ◌∷◌, ◌++◌, length, map, take, drop, get_or, Option, sym, ap, subst, ◌∙◌}
use Rattle.std.proofs.lemmas.List.{drop_more, take_more, take_all, take-append-drop, map-append}
use Rattle.std.proofs.lemmas.List.Elements.{All-push}
use Rattle.g4_source.specs.First.{IsNone, IsFirst, FindsFirst}

module _ {X A B : Type 0} (Reports : A → B → Type 0) (view : X → A) (xs : List X) (i : ℕ) where
  -- nothing is reported of the items before
  abbrev pub ArePassed : Type 0
  ArePassed = IsNone Reports (map view (take i xs))

  -- nothing is reported of the next item either
  pub one_passed : (x : X) → i < length xs → x ≡ get_or xs i x → ((b : B) → Reports (view x) b → ⊥) → ArePassed
      → IsNone Reports (map view (take (i + 1) xs))
  one_passed x within item none before =
      let next : map view (take (i + 1) xs) ≡ map view (take i xs) ++ view x ∷ [] =
      ap (map view) (take_more xs i x within ∙ ap (λ (z : X). take i xs ++ z ∷ []) (sym item)) ∙ map-append view (take i xs) (x ∷ []) in
      subst (IsNone Reports) (sym next) (All-push (λ (y : A). (b : B) → Reports y b → ⊥) (map view (take i xs)) (view x) before none)

  -- something is reported of the next item
  pub one_reported : (x : X) (b : B) → i < length xs → x ≡ get_or xs i x → Reports (view x) b → ArePassed → IsFirst Reports (map view xs) b
  one_reported x b within item reported before =
      let split : xs ≡ take i xs ++ x ∷ drop (i + 1) xs =
      sym (take-append-drop i xs) ∙ ap (λ (ys : List X). take i xs ++ ys)
      (drop_more xs i x within ∙ ap (λ (z : X). z ∷ drop (i + 1) xs) (sym item)) in
      record {
        before = map view (take i xs);
        item = view x;
        after = map view (drop (i + 1) xs);
        parts = ap (map view) split ∙ map-append view (take i xs) (x ∷ drop (i + 1) xs);
        none_before = before;
        reported = reported;
      }

  -- nothing is reported of all items
  pub all_passed : length xs ≤ i → ArePassed → IsNone Reports (map view xs)
  all_passed past before = subst (λ (ys : List X). IsNone Reports (map view ys)) (take_all i xs past) before

-- the same reports of the same items
pub found_same : {T A B : Type 0} (Reports : T → A → B → Type 0) (t u : T) (xs ys : List A) (o p : Option B) → t ≡ u → xs ≡ ys → p ≡ o
    → FindsFirst (Reports t) xs o → FindsFirst (Reports u) ys p
found_same Reports t u xs ys o p test items found h =
    subst (λ (z : _). FindsFirst (Reports u) ys z) (sym found)
    (subst (λ (zs : List _). FindsFirst (Reports u) zs o) items (subst (λ (z : _). FindsFirst (Reports z) xs o) test h))
