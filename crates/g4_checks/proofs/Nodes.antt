-- The atoms of the elements of the code.
use Rattle.std.proofs.Common.{◌≡◌, List, [], ◌∷◌, ◌++◌, map, Option, Vec, Global, refl, sym, ap, ◌∙◌}
use Rattle.std.specs.List.{flat_map}
use Rattle.std.proofs.lemmas.List.{map-append}
use Rattle.g4_source.specs.declared.name.Label.{Label}
use Rattle.g4_source.specs.declared.element.Repeat.{Repeat}
use Rattle.g4_source.specs.declared.element.Element.{Element as Node}
use Rattle.g4_source.specs.declared.element.Element.TheVariants as nodes
use Rattle.g4_source.specs.declared.element.Alternative.{Alternative as Side, out-Alternative}
use Rattle.g4_source.specs.Elements.{Element, Elements, either, atoms, atoms_in_order, atoms_of_either}
use Rattle.g4_source.specs.Trees.{in_order, element_of, alternative_of}
use Rattle.g4_source.proofs.Trees.{of_atom, of_block, of_alternative}
use Rattle.g4_source.specs.declared.atom.Atom.{Atom}
use Rattle.g4_source.specs.declared.rule.LexerAlternative.{LexerAlternative}
use Rattle.g4_source.specs.declared.rule.LexerRule.{LexerRule}
use Rattle.g4_source.specs.declared.rule.ParserRule.{ParserRule}
use Rattle.g4_source.specs.declared.rule.RuleAlternative.{RuleAlternative}
use Rattle.g4_source.specs.Rules.{alternatives_of, bodies_of, lexer_alternatives_of, lexer_bodies_of}
use Rattle.g4_source.specs.declared.kind.RuleKind.{RuleKind}
use Rattle.g4_source.specs.Atoms.{AtomIn, atom_in}
use Rattle.g4_source.proofs.Lists.{parts-map}

module _ (kind : RuleKind) where
  -- atoms in a rule of the kind
  abbrev pub in_rule : List Atom → List AtomIn
  in_rule xs = map (atom_in kind) xs

  -- those of an element of the code
  abbrev pub node_atoms : Node Atom → List AtomIn
  node_atoms x = in_rule (atoms (element_of x))

  -- and of an alternative of the code
  abbrev pub side_atoms : Side Atom → List AtomIn
  side_atoms x = in_rule (atoms_in_order (alternative_of x))

  -- an element that is an atom
  pub atom_atoms : (node : Node Atom) (a : Atom) → node ≡ nodes.Atom a → node_atoms node ≡ atom_in kind a ∷ []
  atom_atoms node a is = ap node_atoms is ∙ ap (λ (x : Element Atom). in_rule (atoms x)) (of_atom a)

  -- alternatives in order
  either_atoms : (xs : List (Side Atom)) → in_rule (atoms_of_either (either (map alternative_of xs))) ≡ flat_map side_atoms xs
  either_atoms [] = refl
  either_atoms (x ∷ xs) =
      map-append (atom_in kind) (atoms_in_order (alternative_of x)) (atoms_of_either (either (map alternative_of xs)))
      ∙ ap (λ (zs : List AtomIn). side_atoms x ++ zs) (either_atoms xs)

  -- an element that is a block
  pub block_atoms : (node : Node Atom) (label : Option Label) (repeat : Repeat) (alternatives : Vec (Side Atom) Global)
      (sides : List (Side Atom)) → node ≡ nodes.Block label repeat alternatives → sides ≡ alternatives.items
      → node_atoms node ≡ flat_map side_atoms sides
  block_atoms node label repeat alternatives sides is whole =
      ap node_atoms is ∙ (ap (λ (x : Element Atom). in_rule (atoms x)) (of_block label repeat alternatives)
      ∙ (either_atoms alternatives.items ∙ ap (flat_map side_atoms) (sym whole)))

  -- elements in order
  pub elements_atoms : (xs : List (Node Atom)) → in_rule (atoms_in_order (in_order (map element_of xs))) ≡ flat_map node_atoms xs
  elements_atoms [] = refl
  elements_atoms (x ∷ xs) =
      map-append (atom_in kind) (atoms (element_of x)) (atoms_in_order (in_order (map element_of xs)))
      ∙ ap (λ (zs : List AtomIn). node_atoms x ++ zs) (elements_atoms xs)

  -- an alternative of these elements
  pub side_is : (side : Side Atom) (elements : List (Node Atom)) → elements ≡ (out-Alternative Atom side).elements.items
      → in_rule (atoms_in_order (in_order (map element_of elements))) ≡ side_atoms side
  side_is side elements whole =
      ap (λ (xs : List (Node Atom)). in_rule (atoms_in_order (in_order (map element_of xs)))) whole
      ∙ ap (λ (x : Elements Atom). in_rule (atoms_in_order x)) (sym (of_alternative side))

  -- the alternatives of a rule
  pub alternatives_atoms : (xs : List (Elements Atom))
      → in_rule (atoms_of_either (either xs)) ≡ flat_map (λ x. in_rule (atoms_in_order x)) xs
  alternatives_atoms [] = refl
  alternatives_atoms (x ∷ xs) =
      map-append (atom_in kind) (atoms_in_order x) (atoms_of_either (either xs))
      ∙ ap (λ (zs : List AtomIn). in_rule (atoms_in_order x) ++ zs) (alternatives_atoms xs)

  -- those of a parser rule
  pub parser_atoms : (rule : ParserRule Atom) (items : List (RuleAlternative Atom)) → items ≡ rule.alternatives
      → flat_map (λ a. in_rule (atoms_in_order a.elements)) items ≡ in_rule (atoms_of_either (alternatives_of rule))
  parser_atoms rule items whole =
      ap (flat_map (λ (a : RuleAlternative Atom). in_rule (atoms_in_order a.elements))) whole
      ∙ sym (alternatives_atoms (bodies_of rule)
      ∙ parts-map (λ (x : Elements Atom). in_rule (atoms_in_order x)) (λ (a : RuleAlternative Atom). a.elements) rule.alternatives)

  -- and of a lexer rule
  pub lexer_atoms : (rule : LexerRule) (items : List LexerAlternative) → items ≡ rule.alternatives
      → flat_map (λ a. in_rule (atoms_in_order a.elements)) items ≡ in_rule (atoms_of_either (lexer_alternatives_of rule))
  lexer_atoms rule items whole =
      ap (flat_map (λ (a : LexerAlternative). in_rule (atoms_in_order a.elements))) whole
      ∙ sym (alternatives_atoms (lexer_bodies_of rule)
      ∙ parts-map (λ (x : Elements Atom). in_rule (atoms_in_order x)) (λ (a : LexerAlternative). a.elements) rule.alternatives)
