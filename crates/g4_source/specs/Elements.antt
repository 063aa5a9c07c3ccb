-- The elements of a rule as trees, over any atoms. What an atom is differs from stage to stage: the tree knows nothing of
-- tokens, names or calls.
use Rattle.std.specs.Prelude.{List, [], ◌∷◌, ◌++◌, Option}
use Rattle.g4_source.specs.declared.name.Label.{Label}
use Rattle.g4_source.specs.declared.element.Repeat.{Repeat}

mutual
  -- one element of a rule
  pub data Element (A : Type 0) : Type 0 where
    -- one that has no others in it
    atom : A → Element A
    -- alternatives in brackets, perhaps with a label, and how often they may be taken
    block : Option Label → Repeat → Alternatives A → Element A

  -- elements one after another
  pub data Elements (A : Type 0) : Type 0 where
    empty : Elements A
    then : Element A → Elements A → Elements A

  -- alternatives in order
  pub data Alternatives (A : Type 0) : Type 0 where
    none : Alternatives A
    or : Elements A → Alternatives A → Alternatives A

-- one alternative
abbrev pub only : {A : Type 0} → Elements A → Alternatives A
only elements = or elements none

-- these alternatives in order
abbrev pub either : {A : Type 0} → List (Elements A) → Alternatives A
either [] = none
either (x ∷ xs) = or x (either xs)

abbrev mutual
  -- the atoms of an element, in order
  pub atoms : {A : Type 0} → Element A → List A
  atoms (atom a) = a ∷ []
  atoms (block label repeat xs) = atoms_of_either xs

  -- the atoms of elements
  pub atoms_in_order : {A : Type 0} → Elements A → List A
  atoms_in_order empty = []
  atoms_in_order (then x xs) = atoms x ++ atoms_in_order xs

  -- the atoms of alternatives
  pub atoms_of_either : {A : Type 0} → Alternatives A → List A
  atoms_of_either none = []
  atoms_of_either (or x xs) = atoms_in_order x ++ atoms_of_either xs
