-- Sums of lists of stacks.
use Rattle.std.specs.Prelude.{◌≡◌, ℕ, List, [], ◌∷◌, Some, slice_get}
use Rattle.g4_net.specs.Configurations.{Stack}
use Rattle.g4_stacks.specs.declared.sum.Sum.{Sum}
use Rattle.g4_stacks.specs.Sums.{IsSum}

-- the sum is that of these stacks
abbrev pub IsSumOf : Sum → List Stack → Type 0
IsSumOf sum stacks = IsSum sum.count sum.total stacks

-- the first lists have these sums
abbrev pub AreSumsOf : List Sum → (ℕ → List Stack) → Type 0
AreSumsOf sums lists = (n : ℕ) (sum : Sum) → slice_get sums n ≡ Some sum → IsSumOf sum (lists n)

-- the lists have these sums, in turn
abbrev pub EachSum : List Sum → List (List Stack) → Type 0
EachSum [] [] = Unit {0}
EachSum [] (stacks ∷ lists) = ⊥
EachSum (sum ∷ sums) [] = ⊥
EachSum (sum ∷ sums) (stacks ∷ lists) = IsSumOf sum stacks × EachSum sums lists
