-- Atoms with signs are blocks.
use Rattle.std.proofs.Common.{◌≡◌, List, [], ◌∷◌, map, Vec, Global, refl, ◌∙◌, ap}
use Rattle.g4_source.specs.declared.element.Repeat.{Repeat}
use Rattle.g4_source.specs.declared.element.Repeat.TheVariants as repeats
use Rattle.g4_source.specs.declared.element.Alternative.{Alternative as Side, roll-Alternative}
use Rattle.g4_source.specs.declared.element.Element.{Element as Node}
use Rattle.g4_source.specs.declared.element.Element.TheVariants as nodes
use Rattle.g4_source.specs.Elements.{Element, atom, block, Elements, empty, then, only, either}
use Rattle.g4_source.specs.Trees.{in_order, element_of, alternative_of}
use Rattle.g4_source.proofs.Trees.{of_atom, of_block, of_elements}
use Rattle.g4_source.specs.declared.atom.Atom.{Atom}
use Rattle.g4_productions.specs.Elements.{signed_atom, unlabelled}

-- a block of the atom alone
pub in_block : (a : Atom) (r : Repeat) (elements : Vec (Node Atom) Global) (alternatives : Vec (Side Atom) Global)
    → elements.items ≡ nodes.Atom (unlabelled a) ∷ []
    → alternatives.items ≡ roll-Alternative Atom (record { elements = elements }) ∷ []
    → element_of (nodes.Block a.label r alternatives) ≡ block a.label r (only (then (atom (unlabelled a)) empty))
in_block a r elements alternatives one whole =
    of_block a.label r alternatives
    ∙ ap (λ (xs : List (Side Atom)). block a.label r (either (map alternative_of xs))) whole
    ∙ ap (λ (x : Elements Atom). block a.label r (only x))
    (of_elements elements ∙ ap (λ (xs : List (Node Atom)). in_order (map element_of xs)) one
    ∙ ap (λ (e : Element Atom). then e empty) (of_atom (unlabelled a)))

-- an atom with a sign is such a block
pub with_sign : (a : Atom) (r : Repeat) → (r ≡ repeats.Once → ⊥)
    → block a.label r (only (then (atom (unlabelled a)) empty)) ≡ signed_atom a r
with_sign a repeats.Once signed = absurd (signed refl)
with_sign a (repeats.Optional s) signed = refl
with_sign a (repeats.Star s) signed = refl
with_sign a (repeats.Plus s) signed = refl
