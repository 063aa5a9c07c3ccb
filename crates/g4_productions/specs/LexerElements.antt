-- The elements of lexer rules.
use Rattle.std.specs.Prelude.{ℕ, List, [], ◌∷◌, ◌++◌, false, Option, Some, None}
use Rattle.std.specs.Str.{chars}
use Rattle.g4_grammar_tokens.specs.Spelling.{literal_spelling}
use Rattle.g4_grammar_tokens.specs.declared.token.Kind.TheVariants as kinds
use Rattle.g4_chars.specs.declared.range.Range.{Range as Span}
use Rattle.g4_source.specs.Elements.{Element, Elements, either}
use Rattle.g4_source.specs.Trees.{in_order}
use Rattle.g4_source.specs.declared.atom.Atom.{Atom}
use Rattle.g4_source.specs.declared.atom.AtomKind.TheVariants as atoms
use Rattle.g4_source.specs.declared.name.Label.{Label}
use Rattle.g4_source.specs.declared.name.Name.{Name}
use Rattle.g4_syntax.specs.Notation.{Terminal, one, characters, excluded, lexer_element, character_set, ◌▸◌, ◌∣◌, optional, repeated, part, sign, with_bars}
use Rattle.g4_syntax.specs.Productions.{assign, element_options, lexer_block, unnamed_lexer_item, lexer_item, labelled_lexer_item}
use Rattle.g4_syntax.specs.Trees.{Tree, both, left, right, absent, present, end, more, inner}
use Rattle.g4_cursor.specs.Options.{right_of_optional}
use Rattle.g4_cursor.specs.Sets.{content}
use Rattle.g4_cursor.specs.Texts.{token_of, name_of, literal_of}
use Rattle.g4_productions.specs.Elements.{Labelled, single, brackets, is_list, optional_suffix_of, action_of, with_suffix}
use Rattle.g4_productions.specs.Members.{set_of_ranges, ranges_of}

-- a set
abbrev pub set_of_leaf : {t : Terminal} → Tree (one t) → List Span
set_of_leaf x = ranges_of (content (chars (token_of x).bytes))

-- the first of some characters; there is one wherever it counts
abbrev pub first_character : List ℕ → ℕ
first_character [] = 0
first_character (c ∷ cs) = c

-- the character of a literal that has one
abbrev pub character_of : {t : Terminal} → Tree (one t) → ℕ
character_of x = first_character (literal_spelling (chars (token_of x).bytes))

-- the range of a literal, or from one to another
abbrev pub character_ranges : Tree (one excluded ▸ optional (sign kinds.DoubleDot ▸ sign kinds.Literal)) → List Span
character_ranges (both literal absent) = record { first = character_of literal; last = character_of literal } ∷ []
character_ranges (both literal (present (both dots last))) = record { first = character_of literal; last = character_of last } ∷ []

abbrev mutual
  -- the ranges under `~`
  pub excluded_ranges : Tree (part character_set) → List Span
  excluded_ranges (inner (left range)) = character_ranges range
  excluded_ranges (inner (right (left set))) = set_of_leaf set
  excluded_ranges (inner (right (right b))) = bracket_ranges b

  -- the ranges in brackets
  pub bracket_ranges : Tree (sign kinds.LeftParenthesis ▸ with_bars (part character_set) ▸ sign kinds.RightParenthesis) → List Span
  bracket_ranges (both opening (both ss closing)) = ranges_between ss

  -- the ranges between bars
  pub ranges_between : Tree (with_bars (part character_set)) → List Span
  ranges_between (both s ss) = excluded_ranges s ++ excluded_after ss

  -- the ranges after bars
  pub excluded_after : Tree (repeated (sign kinds.Bar ▸ part character_set)) → List Span
  excluded_after end = []
  excluded_after (more (both bar s) ss) = excluded_ranges s ++ excluded_after ss

-- the set of the characters under `~`
abbrev pub excluded_set : Tree (part character_set) → List Span
excluded_set tree = set_of_ranges (excluded_ranges tree)

-- a literal, or the characters from its own to that of another, with this label
abbrev pub literal_item : Option Label → Tree
    (one characters ▸ (sign kinds.DoubleDot ▸ sign kinds.Literal ∣ optional element_options)) → Labelled
literal_item l (both literal (left (both dots last))) =
    single false (record { label = l; kind = atoms.Range (literal_of literal) (literal_of last) })
literal_item l (both literal (right options)) =
    single (right_of_optional options) (record { label = l; kind = atoms.Literal (literal_of literal) })

abbrev mutual
  -- an element
  pub lexer_element_of : Tree (part lexer_element) → Element Atom
  lexer_element_of (inner (left a)) = action_of a
  lexer_element_of (inner (right (both x s))) = with_suffix (labelled_lexer x) (optional_suffix_of s)

  -- elements one after another
  pub lexer_elements : Tree (repeated (part lexer_element)) → List (Element Atom)
  lexer_elements end = []
  lexer_elements (more x xs) = lexer_element_of x ∷ lexer_elements xs

  -- an item, perhaps with a label
  pub labelled_lexer : Tree labelled_lexer_item → Labelled
  labelled_lexer (left (both n x)) = labelled_by (name_of n) x
  labelled_lexer (right (left x)) = upper_lexer_item x
  labelled_lexer (right (right u)) = unnamed_lexer None u

  -- an item that begins with an upper-case name
  pub upper_lexer_item : Tree (sign kinds.Upper ▸ (assign ▸ lexer_item ∣ optional element_options)) → Labelled
  upper_lexer_item (both n (left x)) = labelled_by (name_of n) x
  upper_lexer_item (both n (right options)) = single (right_of_optional options) (record { label = None; kind = atoms.Token (name_of n) })

  -- an item after a label with this name
  pub labelled_by : Name → Tree (assign ▸ lexer_item) → Labelled
  labelled_by name (both a i) = named_lexer_item (Some (record { name = name; list = is_list a })) i

  -- an item with this label
  pub named_lexer_item : Option Label → Tree lexer_item → Labelled
  named_lexer_item l (left (both n options)) = single (right_of_optional options) (record { label = l; kind = atoms.Token (name_of n) })
  named_lexer_item l (right u) = unnamed_lexer l u

  -- an item that begins with no name, with this label
  pub unnamed_lexer : Option Label → Tree unnamed_lexer_item → Labelled
  unnamed_lexer l (left x) = literal_item l x
  unnamed_lexer l (right (left set)) = single false (record { label = l; kind = atoms.Set (set_of_leaf set) })
  unnamed_lexer l (right (right (left dot))) = single false (record { label = l; kind = atoms.Any })
  unnamed_lexer l (right (right (right (left (both tilde s))))) =
      single false (record { label = l; kind = atoms.NotCharacters (excluded_set s) })
  unnamed_lexer l (right (right (right (right b)))) = brackets l (either (lexer_block_of b))

  -- the alternatives of a block
  pub lexer_block_of : Tree lexer_block → List (Elements Atom)
  lexer_block_of (both opening (both xs closing)) = lexer_alternatives xs

  -- the alternatives of a block between bars
  pub lexer_alternatives : Tree (with_bars (repeated (part lexer_element))) → List (Elements Atom)
  lexer_alternatives (both x xs) = in_order (lexer_elements x) ∷ lexer_alternatives_after xs

  -- the alternatives of a block after bars
  pub lexer_alternatives_after : Tree (repeated (sign kinds.Bar ▸ repeated (part lexer_element))) → List (Elements Atom)
  lexer_alternatives_after end = []
  lexer_alternatives_after (more (both bar x) xs) = in_order (lexer_elements x) ∷ lexer_alternatives_after xs
