-- Elements of the code: which are a literal, and the tokens that they name.
use Rattle.std.proofs.Common.{◌≡◌, List, [], ◌∷◌, ◌++◌, length, map, None, Option, Vec, Global, refl, sym, ap, ◌∙◌}
use Rattle.std.specs.List.{flat_map}
use Rattle.std.proofs.lemmas.Grind.{flat_map-append}
use Rattle.std.proofs.lemmas.List.{append-nil}
use Rattle.g4_source.specs.declared.name.Label.{Label}
use Rattle.g4_source.specs.declared.element.Repeat.{Repeat}
use Rattle.g4_source.specs.declared.element.Element.{Element as Node}
use Rattle.g4_source.specs.declared.element.Element.TheVariants as nodes
use Rattle.g4_source.specs.declared.element.Alternative.{Alternative as Side, out-Alternative}
use Rattle.g4_source.specs.Elements.{Element, atom, block, Elements, Alternatives, empty, then, none, or, either, atoms, atoms_in_order, atoms_of_either}
use Rattle.g4_source.specs.Bind.{in_order_bind, either_bind, bind}
use Rattle.g4_source.specs.Trees.{in_order, element_of, alternative_of}
use Rattle.g4_source.proofs.Trees.{of_atom, of_block, of_alternative}
use Rattle.g4_source.specs.declared.atom.Atom.{Atom}
use Rattle.g4_source.specs.declared.atom.TokenReference.{TokenReference}
use Rattle.g4_source.specs.declared.rule.ParserRule.{ParserRule}
use Rattle.g4_source.specs.declared.rule.RuleAlternative.{RuleAlternative}
use Rattle.g4_source.specs.Rules.{alternatives_of}
use Rattle.g4_vocab.specs.Numbering.{literal_kind, literal_element, whole_elements, references, all_atoms, all_references}

-- an atom of the code is the literal that it is
pub literal_of_atom : (node : Node Atom) (a : Atom) → node ≡ nodes.Atom a → literal_element (element_of node) ≡ literal_kind a.kind
literal_of_atom node a is = ap (λ (x : Node Atom). literal_element (element_of x)) is ∙ ap literal_element (of_atom a)

-- a block of the code is no literal
pub literal_of_block : (node : Node Atom) (label : Option Label) (repeat : Repeat) (alternatives : Vec (Side Atom) Global)
    → node ≡ nodes.Block label repeat alternatives → literal_element (element_of node) ≡ None
literal_of_block node label repeat alternatives is =
    ap (λ (x : Node Atom). literal_element (element_of x)) is ∙ ap literal_element (of_block label repeat alternatives)

-- none or several elements are no literal
pub whole_is_none : (xs : List (Node Atom)) → (length xs ≡ 1 → ⊥) → whole_elements (in_order (map element_of xs)) ≡ None
whole_is_none [] not_one = refl
whole_is_none (x ∷ []) not_one = absurd (not_one refl)
whole_is_none (x ∷ y ∷ more) not_one = refl

-- the tokens that an element of the code names
abbrev pub node_tokens : Node Atom → List TokenReference
node_tokens x = all_references (atoms (element_of x))

-- and an alternative of the code
abbrev pub side_tokens : Side Atom → List TokenReference
side_tokens x = all_references (atoms_in_order (alternative_of x))

-- and an alternative of a rule
abbrev pub alternative_tokens : RuleAlternative Atom → List TokenReference
alternative_tokens x = all_references (atoms_in_order x.elements)

-- and a rule
abbrev pub rule_tokens : ParserRule Atom → List TokenReference
rule_tokens rule = all_references (atoms_of_either (alternatives_of rule))

tokens-append : (xs ys : List Atom) → all_references (xs ++ ys) ≡ all_references xs ++ all_references ys
tokens-append xs ys = flat_map-append (λ (a : Atom). references a.kind) xs ys

-- an element that is an atom
pub atom_tokens : (node : Node Atom) (a : Atom) → node ≡ nodes.Atom a → node_tokens node ≡ references a.kind
atom_tokens node a is = ap (λ (x : Node Atom). node_tokens x) is
    ∙ (ap (λ (x : Element Atom). all_references (atoms x)) (of_atom a) ∙ append-nil (references a.kind))

-- alternatives in order
pub either_tokens : (xs : List (Side Atom)) → all_references (atoms_of_either (either (map alternative_of xs))) ≡ flat_map side_tokens xs
either_tokens [] = refl
either_tokens (x ∷ xs) = tokens-append (atoms_in_order (alternative_of x)) (atoms_of_either (either (map alternative_of xs)))
    ∙ ap (λ (zs : List TokenReference). side_tokens x ++ zs) (either_tokens xs)

-- an element that is a block
pub block_tokens : (node : Node Atom) (label : Option Label) (repeat : Repeat) (alternatives : Vec (Side Atom) Global)
    (sides : List (Side Atom)) → node ≡ nodes.Block label repeat alternatives → sides ≡ alternatives.items
    → node_tokens node ≡ flat_map side_tokens sides
block_tokens node label repeat alternatives sides is whole =
    ap (λ (x : Node Atom). node_tokens x) is ∙ (ap (λ (x : Element Atom). all_references (atoms x)) (of_block label repeat alternatives)
    ∙ (either_tokens alternatives.items ∙ ap (flat_map side_tokens) (sym whole)))

-- elements in order
pub elements_tokens : (xs : List (Node Atom)) → all_references (atoms_in_order (in_order (map element_of xs))) ≡ flat_map node_tokens xs
elements_tokens [] = refl
elements_tokens (x ∷ xs) = tokens-append (atoms (element_of x)) (atoms_in_order (in_order (map element_of xs)))
    ∙ ap (λ (zs : List TokenReference). node_tokens x ++ zs) (elements_tokens xs)

-- an alternative of these elements
pub side_is : (side : Side Atom) (elements : List (Node Atom)) → elements ≡ (out-Alternative Atom side).elements.items
    → all_references (atoms_in_order (in_order (map element_of elements))) ≡ side_tokens side
side_is side elements whole = ap (λ (xs : List (Node Atom)). all_references (atoms_in_order (in_order (map element_of xs)))) whole
    ∙ ap (λ (x : Elements Atom). all_references (atoms_in_order x)) (sym (of_alternative side))

-- the alternatives of a rule
pub alternatives_tokens : (xs : List (RuleAlternative Atom))
    → all_references (atoms_of_either (either (map (λ a. a.elements) xs))) ≡ flat_map alternative_tokens xs
alternatives_tokens [] = refl
alternatives_tokens (x ∷ xs) =
    tokens-append (atoms_in_order x.elements) (atoms_of_either (either (map (λ (a : RuleAlternative Atom). a.elements) xs)))
    ∙ ap (λ (zs : List TokenReference). alternative_tokens x ++ zs) (alternatives_tokens xs)

-- rules
pub rules_tokens : (rules : List (ParserRule Atom)) → all_references (all_atoms rules) ≡ flat_map rule_tokens rules
rules_tokens [] = refl
rules_tokens (rule ∷ rules) = tokens-append (atoms_of_either (alternatives_of rule)) (all_atoms rules)
    ∙ ap (λ (zs : List TokenReference). rule_tokens rule ++ zs) (rules_tokens rules)

mutual
  -- the atoms that each become themselves
  same : (x : Element Atom) → bind (λ (a : Atom). atom a) x ≡ x
  same (atom a) = refl
  same (block label repeat xs) = ap (block label repeat) (same_either xs)

  pub same_in_order : (xs : Elements Atom) → in_order_bind (λ (a : Atom). atom a) xs ≡ xs
  same_in_order empty = refl
  same_in_order (then x xs) = ap (λ (y : Element Atom). then y (in_order_bind (λ (a : Atom). atom a) xs)) (same x)
      ∙ ap (then x) (same_in_order xs)

  same_either : (xs : Alternatives Atom) → either_bind (λ (a : Atom). atom a) xs ≡ xs
  same_either none = refl
  same_either (or x xs) = ap (λ (y : Elements Atom). or y (either_bind (λ (a : Atom). atom a) xs)) (same_in_order x)
      ∙ ap (or x) (same_either xs)
