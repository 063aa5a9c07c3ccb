-- Substitution in trees: each atom becomes an element over other atoms.
use Rattle.g4_source.specs.Elements.{Element, atom, block, Elements, empty, then, Alternatives, none, or}

abbrev mutual
  -- the element, each atom a being the element f a
  pub bind : {A B : Type 0} → (A → Element B) → Element A → Element B
  bind f (atom a) = f a
  bind f (block label repeat xs) = block label repeat (either_bind f xs)

  -- the same of elements one after another
  pub in_order_bind : {A B : Type 0} → (A → Element B) → Elements A → Elements B
  in_order_bind f empty = empty
  in_order_bind f (then x xs) = then (bind f x) (in_order_bind f xs)

  -- the same of alternatives
  pub either_bind : {A B : Type 0} → (A → Element B) → Alternatives A → Alternatives B
  either_bind f none = none
  either_bind f (or x xs) = or (in_order_bind f x) (either_bind f xs)

-- the same tree over other atoms
abbrev pub over : {A B : Type 0} → (A → B) → Element A → Element B
over f x = bind (λ a. atom (f a)) x

abbrev pub in_order_over : {A B : Type 0} → (A → B) → Elements A → Elements B
in_order_over f xs = in_order_bind (λ a. atom (f a)) xs

abbrev pub either_over : {A B : Type 0} → (A → B) → Alternatives A → Alternatives B
either_over f xs = either_bind (λ a. atom (f a)) xs
