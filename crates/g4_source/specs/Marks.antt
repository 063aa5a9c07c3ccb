-- Trees written as lists of marks, by which contracts compare trees.
use Rattle.std.specs.Prelude.{◌≡◌, List, [], ◌∷◌, ◌⊎◌, Bool, true, false, Option, refl}
use mathlib.Core.Logic.{inl, inr}
use Rattle.std.specs.Coded.{Coded, code_by, coded×, coded⊎, coded_bool, coded_list, coded_option}
use Rattle.std.proofs.Common.{◌∙◌, ap}
use Rattle.g4_source.specs.declared.name.Label.{Label}
use Rattle.g4_source.specs.declared.element.Repeat.{Repeat}
use Rattle.g4_source.specs.contracts.name.Label as labels
use Rattle.g4_source.specs.contracts.element.Repeat as repeats
use Rattle.g4_source.specs.Elements.{Element, atom, block, Elements, empty, then, Alternatives, none, or}

-- what a block begins with: its label, and how often it may be taken
abbrev pub Opening : Type 0
Opening = Option Label × Repeat

-- a mark: an atom, the beginning of an alternative or else the end of a block, or the opening of a block
abbrev pub Mark : Type 0 → Type 0
Mark A = A ⊎ (Bool ⊎ Opening)

-- the element of an opening with these alternatives
abbrev pub opened : {A : Type 0} → Opening → Alternatives A → Element A
opened opening xs = block opening.0 opening.1 xs

abbrev mutual
  -- the marks of an element, and then these
  pub marks : {A : Type 0} → Element A → List (Mark A) → List (Mark A)
  marks (atom a) more = inl a ∷ more
  marks (block label repeat xs) more = inr (inr (label, repeat)) ∷ marks_of_either xs (inr (inl false) ∷ more)

  pub marks_in_order : {A : Type 0} → Elements A → List (Mark A) → List (Mark A)
  marks_in_order empty more = more
  marks_in_order (then x xs) more = marks x (marks_in_order xs more)

  pub marks_of_either : {A : Type 0} → Alternatives A → List (Mark A) → List (Mark A)
  marks_of_either none more = more
  marks_of_either (or x xs) more = inr (inl true) ∷ marks_in_order x (marks_of_either xs more)

-- what is read of the marks after a place: the elements of an alternative, the alternatives after it, and the same of
-- each block around it
pub record After (A : Type 0) : Type 0 where
  pub elements : Elements A
  pub alternatives : Alternatives A
  pub around : List (Elements A × Alternatives A)

-- the marks from an opening on
abbrev pub with_opening : {A : Type 0} → Opening → Alternatives A → List (Elements A × Alternatives A) → After A
with_opening opening xs [] = record { elements = then (opened opening xs) empty; alternatives = none; around = [] }
with_opening opening xs (outer ∷ more) = record { elements = then (opened opening xs) outer.0; alternatives = outer.1; around = more }

-- the marks from a mark on
abbrev pub with_mark : {A : Type 0} → Mark A → After A → After A
with_mark (inl a) b = record { elements = then (atom a) b.elements; alternatives = b.alternatives; around = b.around }
with_mark (inr (inl true)) b = record { elements = empty; alternatives = or b.elements b.alternatives; around = b.around }
with_mark (inr (inl false)) b = record { elements = empty; alternatives = none; around = (b.elements, b.alternatives) ∷ b.around }
with_mark (inr (inr opening)) b = with_opening opening b.alternatives b.around

-- what is read of marks
abbrev pub after : {A : Type 0} → List (Mark A) → After A
after [] = record { elements = empty; alternatives = none; around = [] }
after (m ∷ ms) = with_mark m (after ms)

-- these elements and then those
abbrev pub onto : {A : Type 0} → Elements A → Elements A → Elements A
onto empty ys = ys
onto (then x xs) ys = then x (onto xs ys)

-- what is read of marks, with these elements in front
abbrev pub with_front : {A : Type 0} → Elements A → After A → After A
with_front xs b = record { elements = onto xs b.elements; alternatives = b.alternatives; around = b.around }

pub onto_empty : {A : Type 0} (xs : Elements A) → onto xs empty ≡ xs
onto_empty empty = refl
onto_empty (then x xs) = ap (then x) (onto_empty xs)

mutual
  -- the marks of a tree are read as the tree
  pub read : {A : Type 0} (x : Element A) (ms : List (Mark A)) → after (marks x ms) ≡ with_front (then x empty) (after ms)
  read (atom a) ms = refl
  read (block label repeat xs) ms = ap (with_mark (inr (inr (label, repeat)))) (read_either xs ms)

  pub read_in_order : {A : Type 0} (xs : Elements A) (ms : List (Mark A)) → after (marks_in_order xs ms) ≡ with_front xs (after ms)
  read_in_order empty ms = refl
  read_in_order (then x xs) ms = read x (marks_in_order xs ms) ∙ ap (with_front (then x empty)) (read_in_order xs ms)

  pub read_either : {A : Type 0} (xs : Alternatives A) (ms : List (Mark A))
      → after (marks_of_either xs (inr (inl false) ∷ ms))
      ≡ record { elements = empty; alternatives = xs; around = ((after ms).elements, (after ms).alternatives) ∷ (after ms).around }
  read_either none ms = refl
  read_either (or x xs) ms =
      ap (with_mark (inr (inl true))) (read_in_order x (marks_of_either xs (inr (inl false) ∷ ms)) ∙ ap (with_front x) (read_either xs ms))
      ∙ ap (λ y. record {
        elements = empty;
        alternatives = or y xs;
        around = ((after ms).elements, (after ms).alternatives) ∷ (after ms).around;
      }) (onto_empty x)

-- the code of marks
abbrev pub mark_code : {A : Type 0} → Coded A → Coded (Mark A)
mark_code code = coded⊎ code (coded⊎ coded_bool (coded× (coded_option labels.the_row.coded) repeats.the_row.coded))

-- elements one after another are stored as their marks
abbrev pub elements_code : {A : Type 0} → Coded A → Coded (Elements A)
elements_code {A} code =
    code_by (List (Mark A)) (coded_list (mark_code code)) (λ xs. marks_in_order xs []) (λ ms. (after ms).elements)
    (λ xs. ap (λ b. b.elements) (read_in_order xs []) ∙ onto_empty xs)
