-- Which tree an element of the code is.
use Rattle.std.specs.Prelude.{List, [], ◌∷◌}
use Rattle.g4_source.specs.declared.element.Element.{Element as Node, Element-F, fold-Element}
use Rattle.g4_source.specs.declared.element.Element.TheOpen as layers
use Rattle.g4_source.specs.declared.element.Alternative.{Alternative as Side, Alternative-F, fold-Alternative}
use Rattle.g4_source.specs.Elements.{Element, atom, block, Elements, empty, then, either}

-- these elements one after another
abbrev pub in_order : {A : Type 0} → List (Element A) → Elements A
in_order [] = empty
in_order (x ∷ xs) = then x (in_order xs)

-- one layer of an element of the code, the alternatives in it being trees
abbrev pub element_layer : {A : Type 0} → Element-F A (Element A) (Elements A) → Element A
element_layer (layers.Atom a) = atom a
element_layer (layers.Block label repeat alternatives) = block label repeat (either alternatives.items)

-- one layer of an alternative of the code, the elements in it being trees
abbrev pub alternative_layer : {A : Type 0} → Alternative-F A (Element A) (Elements A) → Elements A
alternative_layer x = in_order x.elements.items

-- the tree of an element of the code
unfoldable pub element_of : {A : Type 0} → Node A → Element A
element_of {A} x = fold-Element A (Element A) (Elements A) element_layer alternative_layer x

-- the tree of an alternative of the code
unfoldable pub alternative_of : {A : Type 0} → Side A → Elements A
alternative_of {A} x = fold-Alternative A (Element A) (Elements A) element_layer alternative_layer x
