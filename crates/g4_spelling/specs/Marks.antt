-- What lexer rules derive: the characters of a text, and its end.
use Rattle.std.specs.Prelude.{◌≡◌, ◌⊎◌, ℕ, List, [], ◌∷◌, map, All}
use Rattle.g4_chars.specs.CharSets.{IsScalar}
use Rattle.g4_source.specs.declared.atom.Atom.{Atom}
use Rattle.g4_grammar.specs.Written.{IsEndOfFile, MatchesKind}

-- a character of a text, or the end of the file
pub data Mark : Type 0 where
  character : ℕ → Mark
  end_of_file : Mark

-- the marks that an atom of a lexer rule reads: the characters that it matches, all Unicode scalar values; `EOF` reads the end of the file
abbrev pub ReadsMarks : Atom → List Mark → Type 0
ReadsMarks a w = ((text : List ℕ) × (w ≡ map character text) × All IsScalar text × MatchesKind a.kind text)
    ⊎ (IsEndOfFile a.kind × (w ≡ end_of_file ∷ []))
