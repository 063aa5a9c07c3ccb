-- Elements and alternatives of the code as trees, from one on.
use Rattle.std.proofs.Common.{◌≡◌, ℕ, ◌+◌, ◌<◌, ◌≤◌, List, ◌∷◌, length, map, drop, get_or, Option, Vec, Global, sym, ap, ◌∙◌}
use Rattle.std.proofs.lemmas.List.{drop_all, drop_more}
use Rattle.g4_source.specs.declared.name.Label.{Label}
use Rattle.g4_source.specs.declared.element.Repeat.{Repeat}
use Rattle.g4_source.specs.declared.element.Element.{Element as Node}
use Rattle.g4_source.specs.declared.element.Element.TheVariants as nodes
use Rattle.g4_source.specs.declared.element.Alternative.{Alternative as Side, out-Alternative}
use Rattle.g4_source.specs.Elements.{atom, block, Elements, empty, then, Alternatives, none, or, either}
use Rattle.g4_source.specs.Trees.{in_order, element_of, alternative_of}
use Rattle.g4_source.proofs.Trees.{of_atom, of_block, of_alternative}

-- the items of a list from an index on
from : {X : Type 0} (xs : List X) (i : ℕ) (x : X) → i < length xs → x ≡ get_or xs i x → drop i xs ≡ x ∷ drop (i + 1) xs
from xs i x within item = drop_more xs i x within ∙ ap (λ (z : _). z ∷ drop (i + 1) xs) (sym item)

module _ {A : Type 0} where
  -- the elements from an index on
  abbrev pub elements_from : List (Node A) → ℕ → Elements A
  elements_from all i = in_order (map element_of (drop i all))

  -- the alternatives from an index on
  abbrev pub sides_from : List (Side A) → ℕ → Alternatives A
  sides_from all i = either (map alternative_of (drop i all))

  pub elements_more : (all : List (Node A)) (i : ℕ) (node : Node A) → i < length all → node ≡ get_or all i node
      → elements_from all i ≡ then (element_of node) (elements_from all (i + 1))
  elements_more all i node within item = ap (λ (xs : List (Node A)). in_order (map element_of xs)) (from all i node within item)

  pub elements_none : (all : List (Node A)) (i : ℕ) → length all ≤ i → elements_from all i ≡ empty
  elements_none all i past = ap (λ (xs : List (Node A)). in_order (map element_of xs)) (drop_all i all past)

  pub sides_more : (all : List (Side A)) (i : ℕ) (side : Side A) (elements : List (Node A)) → i < length all
      → side ≡ get_or all i side → elements ≡ (out-Alternative A side).elements.items →
      sides_from all i ≡ or (in_order (map element_of elements)) (sides_from all (i + 1))
  sides_more all i side elements within item whole =
      ap (λ (xs : List (Side A)). either (map alternative_of xs)) (from all i side within item)
      ∙ ap (λ (x : Elements A). or x (sides_from all (i + 1)))
      (of_alternative side ∙ ap (λ (xs : List (Node A)). in_order (map element_of xs)) (sym whole))

  pub sides_none : (all : List (Side A)) (i : ℕ) → length all ≤ i → sides_from all i ≡ none
  sides_none all i past = ap (λ (xs : List (Side A)). either (map alternative_of xs)) (drop_all i all past)

  -- an atom
  pub atom_tree : (node : Node A) (a : A) → node ≡ nodes.Atom a → atom a ≡ element_of node
  atom_tree node a is = sym (ap element_of is ∙ of_atom a)

  -- a block
  pub block_tree : (node : Node A) (label : Option Label) (repeat : Repeat) (alternatives : Vec (Side A) Global)
      (slice : List (Side A)) → node ≡ nodes.Block label repeat alternatives → slice ≡ alternatives.items
      → block label repeat (either (map alternative_of slice)) ≡ element_of node
  block_tree node label repeat alternatives slice is whole =
      ap (λ (xs : List (Side A)). block label repeat (either (map alternative_of xs))) whole
      ∙ sym (ap element_of is ∙ of_block label repeat alternatives)
