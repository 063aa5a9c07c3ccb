-- A weight of elements that falls from a layer to the next, by which laying ends.
use Rattle.std.proofs.Common.{ℕ, zero, suc, ◌+◌, ◌≤◌, List, [], ◌∷◌, map, drop, arith}
use Rattle.g4_source.specs.Elements.{Element, atom, block, Elements, empty, then, Alternatives, none, or, either}
use Rattle.g4_source.specs.Trees.{in_order}

abbrev mutual
  -- the weight of an element
  pub weight : {B : Type 0} → Element B → ℕ
  weight (atom a) = 1
  weight (block label repeat xs) = weight_of_sides xs + 5

  -- the weight of elements one after another
  pub weight_of_run : {B : Type 0} → Elements B → ℕ
  weight_of_run empty = 0
  weight_of_run (then x xs) = weight x + 1 + weight_of_run xs

  -- the weight of alternatives
  pub weight_of_sides : {B : Type 0} → Alternatives B → ℕ
  weight_of_sides none = 0
  weight_of_sides (or x xs) = weight_of_run x + weight_of_sides xs

-- a part of the elements weighs no more
pub weight_drop : {X B : Type 0} (tree : X → Element B) (xs : List X) (i : ℕ)
    → weight_of_run (in_order (map tree (drop i xs))) ≤ weight_of_run (in_order (map tree xs))
weight_drop tree [] zero = omega arith
weight_drop tree [] (suc i) = omega arith
weight_drop tree (x ∷ xs) zero = omega arith
weight_drop tree (x ∷ xs) (suc i) = let h = weight_drop tree xs i in omega arith

-- a part of the alternatives weighs no more
pub sides_drop : {X B : Type 0} (tree : X → Elements B) (xs : List X) (i : ℕ)
    → weight_of_sides (either (map tree (drop i xs))) ≤ weight_of_sides (either (map tree xs))
sides_drop tree [] zero = omega arith
sides_drop tree [] (suc i) = omega arith
sides_drop tree (x ∷ xs) zero = omega arith
sides_drop tree (x ∷ xs) (suc i) = let h = sides_drop tree xs i in omega arith
