-- The first item of a list of which something is reported, looked for in order.
use Rattle.std.proofs.Common.{◌≡◌, ℕ, ◌+◌, ◌<◌, ◌≤◌, List, [], ◌++◌, ◌∷◌, length, take, drop, get_or, sym, ap, subst, ◌∙◌}
use Rattle.std.proofs.lemmas.List.{drop_more, take_more, take_all, take-append-drop}
use Rattle.std.proofs.lemmas.List.Elements.{All-push}
use Rattle.g4_source.specs.First.{IsNone, IsFirst}

module _ {A B : Type 0} (Reports : A → B → Type 0) (xs : List A) (i : ℕ) where
  -- nothing is reported of the items before
  abbrev pub ArePassed : Type 0
  ArePassed = IsNone Reports (take i xs)

  -- nothing is reported of the next item either
  pub one_passed : (x : A) → i < length xs → x ≡ get_or xs i x → ((b : B) → Reports x b → ⊥) → ArePassed
      → IsNone Reports (take (i + 1) xs)
  one_passed x within item none before =
      subst (IsNone Reports) (sym (take_more xs i x within ∙ ap (λ (z : A). take i xs ++ z ∷ []) (sym item)))
      (All-push (λ (y : A). (b : B) → Reports y b → ⊥) (take i xs) x before none)

  -- something is reported of the next item
  pub one_reported : (x : A) (b : B) → i < length xs → x ≡ get_or xs i x → Reports x b → ArePassed → IsFirst Reports xs b
  one_reported x b within item reported before = record {
    before = take i xs;
    item = x;
    after = drop (i + 1) xs;
    parts = sym (take-append-drop i xs)
        ∙ ap (λ (ys : List A). take i xs ++ ys)
        (drop_more xs i x within ∙ ap (λ (z : A). z ∷ drop (i + 1) xs) (sym item));
    none_before = before;
    reported = reported;
  }

  -- nothing is reported of all items
  pub all_passed : length xs ≤ i → ArePassed → IsNone Reports xs
  all_passed past before = subst (IsNone Reports) (take_all i xs past) before
