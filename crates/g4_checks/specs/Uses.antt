-- What the atoms of rules name, and the faults of it.
use Rattle.std.specs.Prelude.{◌≡◌, ℕ, List, [], Bool, false, codes}
use Rattle.std.specs.Str.{bytes_eq}
use Rattle.g4_base.specs.declared.place.Place.{Place}
use Rattle.g4_source.specs.declared.atom.AtomKind.{AtomKind}
use Rattle.g4_source.specs.declared.atom.AtomKind.TheVariants.{Rule as RuleName, Token, Predicate}
use Rattle.g4_preds.specs.Trees.{Tree}
use Rattle.g4_source.specs.Atoms.{AtomIn}
use Rattle.g4_grammar.specs.Written.{predicate_text}
use Rattle.g4_source.specs.declared.kind.RuleKind.{RuleKind}
use Rattle.g4_source.specs.declared.kind.RuleKind.TheVariants.{Parser, Lexer}
use Rattle.g4_checks.specs.Predicates.{IsMissing, NamesMissing, Reads}

-- an atom of a parser rule names a parser rule n, and there is none: by a reference to it, or in a predicate
abbrev pub UndefinedInParser : (List ℕ → Bool) → AtomKind → List ℕ → Type 0
UndefinedInParser is_parser (RuleName name) n = IsMissing is_parser name.text n
UndefinedInParser is_parser (Predicate written) n = NamesMissing is_parser written n
UndefinedInParser is_parser a n = ⊥

-- an atom of a lexer rule names a lexer rule n, and there is none
abbrev pub UndefinedInLexer : (List ℕ → Bool) → AtomKind → List ℕ → Type 0
UndefinedInLexer is_lexer (Token name) n = (bytes_eq name.text (codes "EOF") ≡ false) × IsMissing is_lexer name.text n
UndefinedInLexer is_lexer a n = ⊥

-- an atom of a rule of the kind names a rule n, and there is none
abbrev pub KindIsUndefined : (List ℕ → Bool) → (List ℕ → Bool) → RuleKind → AtomKind → List ℕ → Type 0
KindIsUndefined is_parser is_lexer Parser a n = UndefinedInParser is_parser a n
KindIsUndefined is_parser is_lexer Lexer a n = UndefinedInLexer is_lexer a n

abbrev pub IsUndefined : (List ℕ → Bool) → (List ℕ → Bool) → AtomIn → List ℕ → Type 0
IsUndefined is_parser is_lexer a n = KindIsUndefined is_parser is_lexer a.kind a.atom.kind n

-- an atom is a predicate, which is at this place
abbrev pub IsPredicateAt : AtomKind → Place → Type 0
IsPredicateAt (Predicate written) place = place ≡ written.place
IsPredicateAt a place = ⊥

-- an atom of a lexer rule is a predicate, which is at this place
abbrev pub KindIsLexerPredicate : RuleKind → AtomKind → Place → Type 0
KindIsLexerPredicate Parser a place = ⊥
KindIsLexerPredicate Lexer a place = IsPredicateAt a place

abbrev pub IsLexerPredicate : AtomIn → Place → Type 0
IsLexerPredicate a place = KindIsLexerPredicate a.kind a.atom.kind place

-- an atom is a predicate with a text that no predicate has, and it is at this place
abbrev pub IsUnknownAt : AtomKind → Place → Type 0
IsUnknownAt (Predicate written) place = (place ≡ written.place) × ((tree : Tree) → Reads written tree → ⊥)
IsUnknownAt a place = ⊥

-- an atom of a parser rule is a predicate with a text that no predicate has, and it is at this place
abbrev pub KindIsUnknownPredicate : RuleKind → AtomKind → Place → Type 0
KindIsUnknownPredicate Parser a place = IsUnknownAt a place
KindIsUnknownPredicate Lexer a place = ⊥

abbrev pub IsUnknownPredicate : AtomIn → Place → Type 0
IsUnknownPredicate a place = KindIsUnknownPredicate a.kind a.atom.kind place

-- the text of an atom that is a predicate of a parser rule
abbrev pub kind_predicate_text : RuleKind → AtomKind → List (List ℕ)
kind_predicate_text Parser a = predicate_text a
kind_predicate_text Lexer a = []

abbrev pub parser_predicate_text : AtomIn → List (List ℕ)
parser_predicate_text a = kind_predicate_text a.kind a.atom.kind
