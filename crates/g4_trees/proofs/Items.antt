-- Bytes that come of the items of a list, added one item after another.
use Rattle.std.proofs.Common.{◌≡◌, ℕ, List, ◌++◌, ◌+◌, ◌<◌, length, get_or, drop, sym, subst, ◌∙◌, ap, append_assoc}
use Rattle.std.specs.Prelude.{Result, IsErrAnd, ⊤}
use Rattle.std.specs.List.{flat_map}
use Rattle.std.proofs.lemmas.List.{drop_more}
use Rattle.g4_trees.specs.Appending.{AddsFront, Adds}
use Rattle.g4_trees.proofs.Appended.{Leaves, adds_front, front_of_next}

-- what comes of the items of a list, one item after another
module _ {X : Type 0} (f : X → List ℕ) (xs : List X) (i : ℕ) (d : X) (within : i < length xs) where
  -- that of one more item comes before that of the items after it
  next_left : flat_map f (drop i xs) ≡ f (get_or xs i d) ++ flat_map f (drop (i + 1) xs)
  next_left = ap (flat_map f) (drop_more xs i d within)

  -- that of one more item is added
  pub next_added : (old mid now : List ℕ) → Leaves (flat_map f xs) (flat_map f (drop i xs)) old mid → now ≡ mid ++ f (get_or xs i d)
      → Leaves (flat_map f xs) (flat_map f (drop (i + 1) xs)) old now
  next_added old mid now so_far is = record {
    done = so_far.done ++ f (get_or xs i d);
    whole = so_far.whole ∙ ap (λ (ys : List ℕ). so_far.done ++ ys) next_left
        ∙ sym (append_assoc so_far.done (f (get_or xs i d)) (flat_map f (drop (i + 1) xs)));
    added = is ∙ ap (λ (ys : List ℕ). ys ++ f (get_or xs i d)) so_far.added ∙ append_assoc old so_far.done (f (get_or xs i d));
  }

  -- memory runs out in that of one more item
  pub next_begun : {E : Type 0} (Q : E → Type 0) (old mid now : List ℕ) (r : Result ⊤ E) → IsErrAnd r Q
      → Leaves (flat_map f xs) (flat_map f (drop i xs)) old mid → AddsFront (f (get_or xs i d)) mid now → Adds (flat_map f xs) old now r
  next_begun Q old mid now r fails so_far front =
      adds_front Q (flat_map f xs) old now r fails
      (front_of_next (flat_map f xs) (f (get_or xs i d)) (flat_map f (drop (i + 1) xs)) old mid now
      (subst (λ (ys : List ℕ). Leaves (flat_map f xs) ys old mid) next_left so_far) front)
