-- The trees of steps that elements and rules over any atoms are.
use Rattle.std.specs.Prelude.{List, map}
use Rattle.g4_source.specs.declared.element.Element.{Element as Node}
use Rattle.g4_source.specs.declared.element.Alternative.{Alternative as Side}
use Rattle.g4_source.specs.Elements.{Element, Elements, Alternatives, either}
use Rattle.g4_source.specs.Bind.{over, in_order_over}
use Rattle.g4_source.specs.Trees.{element_of, alternative_of, in_order}

-- an element of the code over what its atoms become
unfoldable pub tree_of : {A B : Type 0} → (A → B) → Node A → Element B
tree_of f x = over f (element_of x)

-- an alternative of a block
unfoldable pub side_of : {A B : Type 0} → (A → B) → Side A → Elements B
side_of f x = in_order_over f (alternative_of x)

-- elements one after another
abbrev pub run_of : {A B : Type 0} → (A → B) → List (Node A) → Elements B
run_of f xs = in_order (map (tree_of f) xs)

-- alternatives of a block in order
abbrev pub sides_of : {A B : Type 0} → (A → B) → List (Side A) → Alternatives B
sides_of f xs = either (map (side_of f) xs)

-- an alternative of a rule, whose tree is known
abbrev pub body_over : {X A B : Type 0} → (A → B) → (X → Elements A) → X → Elements B
body_over f tree x = in_order_over f (tree x)

-- alternatives of a rule in order
abbrev pub bodies_over : {X A B : Type 0} → (A → B) → (X → Elements A) → List X → Alternatives B
bodies_over f tree xs = either (map (body_over f tree) xs)

-- the alternatives of each rule
abbrev pub rules_over : {R X A B : Type 0} → (A → B) → (X → Elements A) → (R → List X) → List R → List (Alternatives B)
rules_over f tree bodies rules = map (λ rule. bodies_over f tree (bodies rule)) rules

-- the alternatives of a rule over its own atoms
abbrev pub tree_of_rule : {R X A : Type 0} → (X → Elements A) → (R → List X) → R → Alternatives A
tree_of_rule tree bodies rule = either (map tree (bodies rule))
