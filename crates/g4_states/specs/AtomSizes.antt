-- How many states an atom of a lexer rule makes in a network.
use Rattle.std.specs.Prelude.{ℕ, length}
use Rattle.g4_source.specs.declared.atom.Atom.{Atom}
use Rattle.g4_source.specs.declared.atom.AtomKind.{AtomKind}
use Rattle.g4_source.specs.declared.atom.AtomKind.TheVariants.{Rule, Token, Literal, Range, Set, Any, NotTokens, NotCharacters, Action, Predicate}

-- a literal makes a state for each of its characters, any other atom one
abbrev pub states_of_kind : AtomKind → ℕ
states_of_kind (Rule name) = 1
states_of_kind (Token name) = 1
states_of_kind (Literal literal) = length literal.characters
states_of_kind (Range first last) = 1
states_of_kind (Set set) = 1
states_of_kind Any = 1
states_of_kind (NotTokens tokens) = 1
states_of_kind (NotCharacters set) = 1
states_of_kind Action = 1
states_of_kind (Predicate name) = 1

-- the states of an atom
abbrev pub states_of_atom : Atom → ℕ
states_of_atom atom = states_of_kind atom.kind
