use Rattle.std.proofs.Common.{◌≡◌, List, [], ◌∷◌, ◌++◌, None, map, refl, ap, ◌∙◌}
use Rattle.g4_source.specs.declared.element.Element.{Element as Node}
use Rattle.g4_source.specs.declared.element.Element.TheVariants as nodes
use Rattle.g4_source.specs.Elements.{Element, atom, empty, then}
use Rattle.g4_source.specs.Trees.{element_of, in_order}
use Rattle.g4_source.proofs.Trees.{of_atom}
use Rattle.g4_source.specs.declared.atom.Atom.{Atom}
use Rattle.g4_source.specs.declared.atom.AtomKind.TheVariants as kinds
use Rattle.g4_lexer_rules.proofs.literals.literal_alternative.Goals as goal

pub returns : goal.returns
returns c =
    let a : Atom = record { label = None; kind = kinds.Literal c.args.literal } in
    let elements : c.new.result ≡ then (atom a) empty =
    c.new.ensures ∙ (ap (λ (xs : List (Node Atom)). in_order (map element_of xs))
    (c.in_ok-push.ensures.items ∙ ap (λ (xs : List (Node Atom)). xs ++ nodes.Atom a ∷ []) c.new-elements.ensures.items)
    ∙ ap (λ (x : Element Atom). then x empty) (of_atom a)) in
    let commands : c.new-3.result ≡ [] = c.new-3.ensures ∙ c.new-2.ensures.items in
    rw (elements, commands) refl
