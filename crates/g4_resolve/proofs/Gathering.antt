-- The texts of the predicates of a rule, part by part.
use Rattle.std.proofs.Common.{◌≡◌, ℕ, List, [], ◌∷◌, ◌++◌, map, Option, Vec, Global, refl, sym, ap, ◌∙◌}
use Rattle.std.specs.List.{flat_map}
use Rattle.std.proofs.lemmas.Grind.{flat_map-append}
use Rattle.std.proofs.lemmas.List.{append-nil}
use Rattle.g4_source.specs.declared.name.Label.{Label}
use Rattle.g4_source.specs.declared.element.Repeat.{Repeat}
use Rattle.g4_source.specs.declared.element.Element.{Element as Node}
use Rattle.g4_source.specs.declared.element.Element.TheVariants as nodes
use Rattle.g4_source.specs.declared.element.Alternative.{Alternative as Side, out-Alternative}
use Rattle.g4_source.specs.Elements.{Element, Elements, either, atoms, atoms_in_order, atoms_of_either}
use Rattle.g4_source.specs.Trees.{in_order, element_of, alternative_of}
use Rattle.g4_source.proofs.Trees.{of_atom, of_block, of_alternative}
use Rattle.g4_source.specs.declared.atom.Atom.{Atom}
use Rattle.g4_source.specs.declared.rule.RuleAlternative.{RuleAlternative}
use Rattle.g4_grammar.specs.Written.{predicate_text}
use Rattle.g4_resolve.specs.Texts.{texts_among}

-- the texts of an element of the code
abbrev pub node_texts : Node Atom → List (List ℕ)
node_texts x = texts_among (atoms (element_of x))

-- and of an alternative of the code
abbrev pub side_texts : Side Atom → List (List ℕ)
side_texts x = texts_among (atoms_in_order (alternative_of x))

-- and of an alternative of a rule
abbrev pub alternative_texts : RuleAlternative Atom → List (List ℕ)
alternative_texts x = texts_among (atoms_in_order x.elements)

texts-append : (xs ys : List Atom) → texts_among (xs ++ ys) ≡ texts_among xs ++ texts_among ys
texts-append xs ys = flat_map-append (λ (a : Atom). predicate_text a.kind) xs ys

-- an element that is an atom
pub atom_texts : (node : Node Atom) (a : Atom) → node ≡ nodes.Atom a → node_texts node ≡ predicate_text a.kind
atom_texts node a is = ap (λ (x : Node Atom). node_texts x) is
    ∙ (ap (λ (x : Element Atom). texts_among (atoms x)) (of_atom a) ∙ append-nil (predicate_text a.kind))

-- alternatives in order
either_texts : (xs : List (Side Atom)) → texts_among (atoms_of_either (either (map alternative_of xs))) ≡ flat_map side_texts xs
either_texts [] = refl
either_texts (x ∷ xs) = texts-append (atoms_in_order (alternative_of x)) (atoms_of_either (either (map alternative_of xs)))
    ∙ ap (λ (zs : List (List ℕ)). side_texts x ++ zs) (either_texts xs)

-- an element that is a block
pub block_texts : (node : Node Atom) (label : Option Label) (repeat : Repeat) (alternatives : Vec (Side Atom) Global)
    (sides : List (Side Atom)) → node ≡ nodes.Block label repeat alternatives → sides ≡ alternatives.items
    → node_texts node ≡ flat_map side_texts sides
block_texts node label repeat alternatives sides is whole =
    ap (λ (x : Node Atom). node_texts x) is ∙ (ap (λ (x : Element Atom). texts_among (atoms x)) (of_block label repeat alternatives)
    ∙ (either_texts alternatives.items ∙ ap (flat_map side_texts) (sym whole)))

-- elements in order
pub elements_texts : (xs : List (Node Atom)) → texts_among (atoms_in_order (in_order (map element_of xs))) ≡ flat_map node_texts xs
elements_texts [] = refl
elements_texts (x ∷ xs) = texts-append (atoms (element_of x)) (atoms_in_order (in_order (map element_of xs)))
    ∙ ap (λ (zs : List (List ℕ)). node_texts x ++ zs) (elements_texts xs)

-- an alternative of these elements
pub side_is : (side : Side Atom) (elements : List (Node Atom)) → elements ≡ (out-Alternative Atom side).elements.items
    → texts_among (atoms_in_order (in_order (map element_of elements))) ≡ side_texts side
side_is side elements whole = ap (λ (xs : List (Node Atom)). texts_among (atoms_in_order (in_order (map element_of xs)))) whole
    ∙ ap (λ (x : Elements Atom). texts_among (atoms_in_order x)) (sym (of_alternative side))

-- the alternatives of a rule
pub alternatives_texts : (xs : List (RuleAlternative Atom))
    → texts_among (atoms_of_either (either (map (λ a. a.elements) xs))) ≡ flat_map alternative_texts xs
alternatives_texts [] = refl
alternatives_texts (x ∷ xs) =
    texts-append (atoms_in_order x.elements) (atoms_of_either (either (map (λ (a : RuleAlternative Atom). a.elements) xs)))
    ∙ ap (λ (zs : List (List ℕ)). alternative_texts x ++ zs) (alternatives_texts xs)
