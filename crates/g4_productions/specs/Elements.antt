-- What is common to the elements of parser rules and of lexer rules.
use Rattle.std.specs.Prelude.{List, Bool, true, false, not, Option, None, map}
use Rattle.std.proofs.Common.{Vec, Global}
use Rattle.g4_source.specs.Elements.{Element, atom, block, Elements, empty, then, Alternatives, only, either}
use Rattle.g4_source.specs.Trees.{element_of, alternative_of}
use Rattle.g4_source.specs.declared.element.Alternative.{Alternative as Side}
use Rattle.g4_source.specs.declared.element.Element.{Element as Item}
use Rattle.g4_source.specs.declared.name.Label.{Label}
use Rattle.g4_source.specs.declared.element.Repeat.{Repeat}
use Rattle.g4_source.specs.declared.element.Repeat.TheVariants as repeats
use Rattle.g4_source.specs.declared.atom.Atom.{Atom}
use Rattle.g4_source.specs.declared.atom.AtomKind.TheVariants as atoms
use Rattle.g4_productions.specs.declared.suffix.Associated.{Associated}
use Rattle.g4_productions.specs.declared.suffix.AssociatedList.{AssociatedList}
use Rattle.g4_productions.specs.declared.suffix.Labelled.{Labelled as Node}
use Rattle.g4_productions.specs.declared.suffix.Labelled.TheVariants as nodes
use Rattle.g4_syntax.specs.Notation.{Terminal, Expression, one, optional}
use Rattle.g4_syntax.specs.Productions.{action, assign, suffix}
use Rattle.g4_syntax.specs.Trees.{Tree, both, left, right, absent, present}
use Rattle.g4_cursor.specs.Options.{right_of_optional}
use Rattle.g4_cursor.specs.Texts.{is_present, name_of}

-- whether the sign of a label is `+=`
abbrev pub is_list : Tree assign → Bool
is_list (left equals) = false
is_list (right plus_equals) = true

-- a label
abbrev pub label_of : {t : Terminal} → Tree (one t) → Tree assign → Label
label_of n a = record { name = name_of n; list = is_list a }

-- whether no other `?` follows the sign
abbrev pub is_greedy : {x : Expression} → Tree (optional x) → Bool
is_greedy tree = not (is_present tree)

-- how often an element with this sign may be taken
abbrev pub suffix_of : Tree suffix → Repeat
suffix_of (both (left question) lazy) = repeats.Optional (record { greedy = is_greedy lazy })
suffix_of (both (right (left star)) lazy) = repeats.Star (record { greedy = is_greedy lazy })
suffix_of (both (right (right plus)) lazy) = repeats.Plus (record { greedy = is_greedy lazy })

-- the same where there may be no sign
abbrev pub optional_suffix_of : Tree (optional suffix) → Repeat
optional_suffix_of absent = repeats.Once
optional_suffix_of (present s) = suffix_of s

-- an action, or a predicate where `?` follows it
abbrev pub action_of : Tree action → Element Atom
action_of (both a absent) = atom (record { label = None; kind = atoms.Action })
action_of (both a (present (both question options))) = atom (record { label = None; kind = atoms.Predicate (name_of a) })

-- whether `<assoc=right>` follows it
abbrev pub action_right : Tree action → Bool
action_right (both a absent) = false
action_right (both a (present (both question options))) = right_of_optional options

-- the same together
abbrev pub action_item : Tree action → Element Atom × Bool
action_item x = (action_of x, action_right x)

-- an element without its sign: an atom, and whether `<assoc=right>` follows it; or alternatives in brackets and their label
pub data Labelled : Type 0 where
  single : Bool → Atom → Labelled
  brackets : Option Label → Alternatives Atom → Labelled

-- the atom with no label
abbrev pub unlabelled : Atom → Atom
unlabelled a = record { label = None; kind = a.kind }

-- whether `<assoc=right>` follows the element: what is in brackets does not count
abbrev pub is_right : Labelled → Bool
is_right (single associates a) = associates
is_right (brackets label alternatives) = false

-- an atom with a sign is a block of one alternative, which takes its label
abbrev pub signed_atom : Atom → Repeat → Element Atom
signed_atom a repeats.Once = atom a
signed_atom a repeat = block a.label repeat (only (then (atom (unlabelled a)) empty))

-- the element that may be taken so often
abbrev pub with_suffix : Labelled → Repeat → Element Atom
with_suffix (single associates a) repeat = signed_atom a repeat
with_suffix (brackets label alternatives) repeat = block label repeat alternatives

-- an element of the code without its sign
abbrev pub labelled_of : Node → Labelled
labelled_of (nodes.Single associates a) = single associates a
labelled_of (nodes.Brackets label alternatives) = brackets label (either (map alternative_of alternatives.items))

-- an element of the code, and whether `<assoc=right>` follows it
abbrev pub item_of : Associated → Element Atom × Bool
item_of x = (element_of x.element, x.right)

-- elements of the code in order
abbrev pub elements_in : Vec (Item Atom) Global → List (Element Atom)
elements_in v = map element_of v.items

-- the same, and whether `<assoc=right>` follows one of them
abbrev pub items_of : AssociatedList → List (Element Atom) × Bool
items_of x = (elements_in x.elements, x.right)

-- alternatives of the code in order
abbrev pub alternatives_in : Vec (Side Atom) Global → List (Elements Atom)
alternatives_in v = map alternative_of v.items
