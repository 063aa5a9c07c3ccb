-- Which trees elements and alternatives of the code are.
use Rattle.std.proofs.Common.{◌≡◌, ℕ, ◌<◌, List, map, length, get_or, Option, Some, Vec, Global, refl, sym, ap, ◌∙◌}
use Rattle.std.specs.List.{slice_get}
use Rattle.std.proofs.lemmas.Option.{slice_get_read}
use Rattle.g4_source.specs.declared.name.Label.{Label}
use Rattle.g4_source.specs.declared.element.Repeat.{Repeat}
use Rattle.g4_source.specs.declared.element.Element.{Element as Node}
use Rattle.g4_source.specs.declared.element.Element.TheVariants as nodes
use Rattle.g4_source.specs.declared.element.Alternative.{Alternative as Side, out-Alternative}
use Rattle.g4_source.specs.Elements.{atom, block, Elements, either}
use Rattle.g4_source.specs.Trees.{in_order, element_of, alternative_of}
use Rattle.g4_source.proofs.Trees.{of_atom, of_block, of_alternative}
use Rattle.g4_recursion.specs.declared.lead.Lead.{Lead}
use Rattle.g4_recursion.proofs.Trees.{mapped_at}

-- an atom
pub atom_tree : (node : Node Lead) (a : Lead) → node ≡ nodes.Atom a → atom a ≡ element_of node
atom_tree node a is = sym (ap element_of is ∙ of_atom a)

-- a block
pub block_tree : (node : Node Lead) (label : Option Label) (repeat : Repeat) (alternatives : Vec (Side Lead) Global)
    (slice : List (Side Lead)) → node ≡ nodes.Block label repeat alternatives → slice ≡ alternatives.items
    → block label repeat (either (map alternative_of slice)) ≡ element_of node
block_tree node label repeat alternatives slice is whole =
    ap (λ (xs : List (Side Lead)). block label repeat (either (map alternative_of xs))) whole
    ∙ sym (ap element_of is ∙ of_block label repeat alternatives)

-- an alternative of a list
pub side_at : (sides : List (Side Lead)) (i : ℕ) (side : Side Lead) (elements : List (Node Lead)) → i < length sides
    → side ≡ get_or sides i side → elements ≡ (out-Alternative Lead side).elements.items
    → slice_get (map alternative_of sides) i ≡ Some (in_order (map element_of elements))
side_at sides i side elements within item whole =
    mapped_at alternative_of sides i side (slice_get_read sides (length sides) i side refl within item)
    ∙ ap Some (of_alternative side ∙ ap (λ (xs : List (Node Lead)). in_order (map element_of xs)) (sym whole))

-- an element of a list
pub node_at : (all : List (Node Lead)) (i : ℕ) (node : Node Lead) → i < length all → node ≡ get_or all i node
    → slice_get (map element_of all) i ≡ Some (element_of node)
node_at all i node within item = mapped_at element_of all i node (slice_get_read all (length all) i node refl within item)

-- the elements of an alternative of a rule
pub elements_at : (all : List (Elements Lead)) (i : ℕ) (x : Elements Lead) (elements : List (Node Lead)) → i < length all
    → x ≡ get_or all i x → in_order (map element_of elements) ≡ x → slice_get all i ≡ Some (in_order (map element_of elements))
elements_at all i x elements within item tree = slice_get_read all (length all) i x refl within item ∙ ap Some (sym tree)
