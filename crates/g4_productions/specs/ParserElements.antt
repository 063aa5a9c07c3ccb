-- The elements of parser rules.
use Rattle.std.specs.Prelude.{List, [], ◌∷◌, ◌++◌, Bool, false, Option, Some, None, ◌||◌}
use Rattle.g4_grammar_tokens.specs.declared.token.Kind.TheVariants as kinds
use Rattle.g4_source.specs.Elements.{Element, Elements, either}
use Rattle.g4_source.specs.Trees.{in_order}
use Rattle.g4_source.specs.declared.atom.Atom.{Atom}
use Rattle.g4_source.specs.declared.atom.AtomKind.TheVariants as atoms
use Rattle.g4_source.specs.declared.atom.TokenReference.{TokenReference}
use Rattle.g4_source.specs.declared.atom.TokenReference.TheVariants as references
use Rattle.g4_source.specs.declared.name.Label.{Label}
use Rattle.g4_source.specs.declared.name.Name.{Name}
use Rattle.g4_syntax.specs.Notation.{element, token_set, ◌▸◌, ◌∣◌, optional, repeated, part, sign, with_bars}
use Rattle.g4_syntax.specs.Productions.{assign, element_options, reference_end, alternative, block, unnamed_item, item, labelled_item}
use Rattle.g4_syntax.specs.Trees.{Tree, both, left, right, end, more, inner}
use Rattle.g4_cursor.specs.Options.{right_of_optional}
use Rattle.g4_cursor.specs.Texts.{text_of, name_of, literal_of}
use Rattle.g4_productions.specs.Elements.{Labelled, single, brackets, is_list, is_right, optional_suffix_of, action_of, action_right, with_suffix}

-- whether the reference to a rule associates to the right
abbrev pub reference_right : Tree reference_end → Bool
reference_right (both arguments options) = right_of_optional options

abbrev mutual
  -- the tokens after `~`
  pub references_of : Tree (part token_set) → List TokenReference
  references_of (inner (left (both n options))) = references.Token (text_of n) ∷ []
  references_of (inner (right (left literal))) = references.Literal (literal_of literal) ∷ []
  references_of (inner (right (right b))) = bracket_references b

  -- the tokens in brackets
  pub bracket_references : Tree (sign kinds.LeftParenthesis ▸ with_bars (part token_set) ▸ sign kinds.RightParenthesis)
      → List TokenReference
  bracket_references (both opening (both ss closing)) = references_between ss

  -- the tokens between bars
  pub references_between : Tree (with_bars (part token_set)) → List TokenReference
  references_between (both s ss) = references_of s ++ references_after ss

  -- the tokens after bars
  pub references_after : Tree (repeated (sign kinds.Bar ▸ part token_set)) → List TokenReference
  references_after end = []
  references_after (more (both bar s) ss) = references_of s ++ references_after ss

abbrev mutual
  -- an element
  pub parser_element : Tree (part element) → Element Atom
  parser_element (inner (left a)) = action_of a
  parser_element (inner (right (both x s))) = with_suffix (labelled x) (optional_suffix_of s)

  -- elements one after another
  pub parser_elements : Tree (repeated (part element)) → List (Element Atom)
  parser_elements end = []
  parser_elements (more x xs) = parser_element x ∷ parser_elements xs

  -- an item, perhaps with a label
  pub labelled : Tree labelled_item → Labelled
  labelled (left x) = lower_item x
  labelled (right (left x)) = upper_item x
  labelled (right (right u)) = unnamed None u

  -- an item that begins with a lower-case name
  pub lower_item : Tree (sign kinds.Lower ▸ (assign ▸ item ∣ reference_end)) → Labelled
  lower_item (both n (left x)) = labelled_after (name_of n) x
  lower_item (both n (right r)) = single (reference_right r) (record { label = None; kind = atoms.Rule (name_of n) })

  -- an item that begins with an upper-case name
  pub upper_item : Tree (sign kinds.Upper ▸ (assign ▸ item ∣ optional element_options)) → Labelled
  upper_item (both n (left x)) = labelled_after (name_of n) x
  upper_item (both n (right options)) = single (right_of_optional options) (record { label = None; kind = atoms.Token (name_of n) })

  -- an item after a label with this name
  pub labelled_after : Name → Tree (assign ▸ item) → Labelled
  labelled_after name (both a i) = named_item (Some (record { name = name; list = is_list a })) i

  -- an item with this label
  pub named_item : Option Label → Tree item → Labelled
  named_item l (left (both n r)) = single (reference_right r) (record { label = l; kind = atoms.Rule (name_of n) })
  named_item l (right (left (both n options))) = single (right_of_optional options) (record { label = l; kind = atoms.Token (name_of n) })
  named_item l (right (right u)) = unnamed l u

  -- an item that begins with no name, with this label
  pub unnamed : Option Label → Tree unnamed_item → Labelled
  unnamed l (left (both literal options)) = single (right_of_optional options)
      (record { label = l; kind = atoms.Literal (literal_of literal) })
  unnamed l (right (left (both dot options))) =
      single (right_of_optional options) (record { label = l; kind = atoms.Any })
  unnamed l (right (right (left (both tilde s)))) =
      single false (record { label = l; kind = atoms.NotTokens (references_of s) })
  unnamed l (right (right (right b))) = brackets l (either (block_of b))

  -- the alternatives of a block
  pub block_of : Tree block → List (Elements Atom)
  block_of (both opening (both prequel (both xs closing))) = alternatives_of xs

  -- the alternatives between bars
  pub alternatives_of : Tree (with_bars alternative) → List (Elements Atom)
  alternatives_of (both x xs) = alternative_elements x ∷ alternatives_after xs

  -- the elements of an alternative
  pub alternative_elements : Tree alternative → Elements Atom
  alternative_elements (both options xs) = in_order (parser_elements xs)

  -- the alternatives after bars
  pub alternatives_after : Tree (repeated (sign kinds.Bar ▸ alternative)) → List (Elements Atom)
  alternatives_after end = []
  alternatives_after (more (both bar x) xs) = alternative_elements x ∷ alternatives_after xs

-- whether `<assoc=right>` follows the element
abbrev pub element_right : Tree (part element) → Bool
element_right (inner (left a)) = action_right a
element_right (inner (right (both x s))) = is_right (labelled x)

-- whether it follows one of the elements
abbrev pub elements_right : Tree (repeated (part element)) → Bool
elements_right end = false
elements_right (more x xs) = element_right x || elements_right xs

-- an element, and whether `<assoc=right>` follows it
abbrev pub parser_item : Tree (part element) → Element Atom × Bool
parser_item x = (parser_element x, element_right x)

-- elements one after another, and whether it follows one of them
abbrev pub parser_items : Tree (repeated (part element)) → List (Element Atom) × Bool
parser_items xs = (parser_elements xs, elements_right xs)

-- whether an alternative associates to the right: `<assoc=right>` begins it or follows one of its elements
abbrev pub alternative_right : Tree alternative → Bool
alternative_right (both options xs) = right_of_optional options || elements_right xs
