-- The trees of elements, a layer at a time. These equations are for every crate that reads or makes elements.
use Rattle.std.proofs.Common.{◌≡◌, map, sym, ◌∙◌, ap, Option, Vec, Global}
use Rattle.g4_source.specs.declared.name.Label.{Label}
use Rattle.g4_source.specs.declared.element.Repeat.{Repeat}
use Rattle.g4_source.specs.declared.element.Element.{Element as Node, fold-Element, fold-roll-Element}
use Rattle.g4_source.specs.declared.element.Alternative.{Alternative as Side, fold_out-Alternative, fold-roll-Alternative, out-Alternative, roll-Alternative}
use Rattle.g4_source.specs.declared.element.Element.TheVariants as nodes
use Rattle.g4_source.specs.Elements.{Element, Elements, atom, block, either}
use Rattle.g4_source.specs.Trees.{in_order, element_layer, alternative_layer, element_of, alternative_of}

-- an atom
pub of_atom : {A : Type 0} (a : A) → element_of (nodes.Atom a) ≡ atom a
unfolding element_of
of_atom {A} a = ap (fold-Element A (Element A) (Elements A) element_layer alternative_layer) (sym (nodes.rolls-Atom a))
    ∙ fold-roll-Element A (Element A) (Elements A) element_layer alternative_layer _

-- a block
pub of_block : {A : Type 0} (label : Option Label) (repeat : Repeat) (alternatives : Vec (Side A) Global)
    → element_of (nodes.Block label repeat alternatives) ≡ block label repeat (either (map alternative_of alternatives.items))
unfolding element_of alternative_of
of_block {A} label repeat alternatives =
    ap (fold-Element A (Element A) (Elements A) element_layer alternative_layer) (sym (nodes.rolls-Block label repeat alternatives))
    ∙ fold-roll-Element A (Element A) (Elements A) element_layer alternative_layer _

-- an alternative that is read
pub of_alternative : {A : Type 0} (x : Side A) → alternative_of x ≡ in_order (map element_of (out-Alternative A x).elements.items)
unfolding element_of alternative_of
of_alternative {A} x = fold_out-Alternative A (Element A) (Elements A) element_layer alternative_layer x

-- an alternative that is made of these elements
pub of_elements : {A : Type 0} (elements : Vec (Node A) Global)
    → alternative_of (roll-Alternative A (record { elements = elements })) ≡ in_order (map element_of elements.items)
unfolding element_of alternative_of
of_elements {A} elements = fold-roll-Alternative A (Element A) (Elements A) element_layer alternative_layer _
