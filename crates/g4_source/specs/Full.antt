-- Blocks that have an alternative, as every block of a grammar text has.
use Rattle.std.specs.Prelude.{List}
use Rattle.g4_source.specs.Elements.{Element, atom, block, Elements, empty, then, Alternatives, none, or, either}

-- there is an alternative
abbrev pub IsSome : {A : Type 0} → Alternatives A → Type 0
IsSome none = ⊥
IsSome (or x xs) = Unit {0}

abbrev mutual
  -- each block of the element has an alternative
  pub IsFull : {A : Type 0} → Element A → Type 0
  IsFull (atom a) = Unit {0}
  IsFull (block label repeat xs) = IsSome xs × EachIsFull xs

  -- each block of the elements
  pub AreFull : {A : Type 0} → Elements A → Type 0
  AreFull empty = Unit {0}
  AreFull (then x xs) = IsFull x × AreFull xs

  -- each block of the alternatives
  pub EachIsFull : {A : Type 0} → Alternatives A → Type 0
  EachIsFull none = Unit {0}
  EachIsFull (or x xs) = AreFull x × EachIsFull xs

-- there is an alternative, and each block has one
abbrev pub AreFullAlternatives : {A : Type 0} → List (Elements A) → Type 0
AreFullAlternatives xs = IsSome (either xs) × EachIsFull (either xs)
