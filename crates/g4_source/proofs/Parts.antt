-- What holds of each item of two lists, one after the other, holds of each item of both.
use Rattle.std.proofs.Common.{List, [], ◌∷◌, ◌++◌}
use Rattle.std.specs.List.{All}
use Rattle.std.proofs.lemmas.List.Elements.{All-nil, All-cons, All-head, All-tail}

module _ {X : Type 0} (P : X → Type 0) where
  -- of the first list
  pub All-front : (xs ys : List X) → All P (xs ++ ys) → All P xs
  All-front [] ys h = All-nil P
  All-front (x ∷ xs) ys h = All-cons P x xs (All-head P x (xs ++ ys) h) (All-front xs ys (All-tail P x (xs ++ ys) h))

  -- of the second
  pub All-rest : (xs ys : List X) → All P (xs ++ ys) → All P ys
  All-rest [] ys h = h
  All-rest (x ∷ xs) ys h = All-rest xs ys (All-tail P x (xs ++ ys) h)
