-- What the atoms of lexer rules are in a network.
use Rattle.std.specs.Prelude.{ℕ, ◌+◌, List, [], ◌∷◌, None, codes, cond}
use Rattle.std.specs.List.{position_or_len}
use Rattle.std.specs.Str.{bytes_eq}
use Rattle.g4_chars.specs.Building.{scalars, gaps}
use Rattle.g4_chars.specs.CharSets.{IsCanonical}
use Rattle.g4_chars.specs.declared.range.Range.{Range as Span}
use Rattle.g4_source.specs.declared.element.Repeat.TheVariants.{Once}
use Rattle.g4_source.specs.Elements.{Element, atom, block, Elements, empty, then, only}
use Rattle.g4_source.specs.declared.atom.AtomKind.{AtomKind}
use Rattle.g4_source.specs.declared.atom.AtomKind.TheVariants as kinds
use Rattle.g4_grammar.specs.declared.step.Step.{Step}
use Rattle.g4_grammar.specs.declared.step.Step.TheVariants as steps
use Rattle.g4_ordered.specs.declared.network.Reads.{Reads}
use Rattle.g4_ordered.specs.declared.network.Reads.TheVariants.{Characters, EndOfText}
use Rattle.g4_lexer_rules.specs.declared.step.LexerStep.{LexerStep}
use Rattle.g4_lexer_rules.specs.declared.step.LexerStep.TheVariants.{Character, Set, AtEnd, Call, Empty}

-- the step of the network: a character or a set of them is an edge, and so is the end of the text
abbrev pub step_of : LexerStep → Step Reads
step_of (Character c) = steps.Edge (Characters (scalars c (c + 1)))
step_of (Set set) = steps.Edge (Characters set)
step_of AtEnd = steps.Edge EndOfText
step_of (Call rule) = steps.Call rule 0
step_of Empty = steps.Empty

-- these characters, one after another
abbrev pub characters_in_order : List ℕ → Elements LexerStep
characters_in_order [] = empty
characters_in_order (c ∷ cs) = then (atom (Character c)) (characters_in_order cs)

-- the same as one element
abbrev pub chained : List ℕ → Element LexerStep
chained cs = block None Once (only (characters_in_order cs))

-- the characters from that of one literal to that of another, if each has one character
abbrev pub spanned : List ℕ → List ℕ → List Span
spanned [] last = []
spanned (a ∷ []) [] = []
spanned (a ∷ []) (b ∷ []) = scalars a (b + 1)
spanned (a ∷ []) (b ∷ c ∷ cs) = []
spanned (a ∷ b ∷ cs) last = []

-- a name in a lexer rule is a call of the first rule of that name, which has this place among the names, but for the end of the text
abbrev pub reference : List (List ℕ) → List ℕ → LexerStep
reference names name = cond (bytes_eq name (codes "EOF")) AtEnd (Call (position_or_len (λ other. bytes_eq other name) names))

-- What an atom is: a literal is its characters, one after another; what takes one character is the set of those that it takes; a
-- name is a reference; an action is an empty step, and so is a predicate. What no lexer rule has takes no character.
abbrev pub element_of_kind : List (List ℕ) → AtomKind → Element LexerStep
element_of_kind names (kinds.Rule name) = atom (Set [])
element_of_kind names (kinds.Token name) = atom (reference names name.text)
element_of_kind names (kinds.Literal literal) = chained literal.characters
element_of_kind names (kinds.Range first last) = atom (Set (spanned first.characters last.characters))
element_of_kind names (kinds.Set set) = atom (Set set)
element_of_kind names kinds.Any = atom (Set (scalars 0 0x110000))
element_of_kind names (kinds.NotTokens tokens) = atom (Set [])
element_of_kind names (kinds.NotCharacters set) = atom (Set (gaps 0 set))
element_of_kind names kinds.Action = atom Empty
element_of_kind names (kinds.Predicate name) = atom Empty

-- the set of an atom, where it has one, is in its one form, as every set of the code is
abbrev pub SetIsCanonical : AtomKind → Type 0
SetIsCanonical (kinds.Rule name) = Unit {0}
SetIsCanonical (kinds.Token name) = Unit {0}
SetIsCanonical (kinds.Literal literal) = Unit {0}
SetIsCanonical (kinds.Range first last) = Unit {0}
SetIsCanonical (kinds.Set set) = IsCanonical set
SetIsCanonical kinds.Any = Unit {0}
SetIsCanonical (kinds.NotTokens tokens) = Unit {0}
SetIsCanonical (kinds.NotCharacters set) = IsCanonical set
SetIsCanonical kinds.Action = Unit {0}
SetIsCanonical (kinds.Predicate name) = Unit {0}
