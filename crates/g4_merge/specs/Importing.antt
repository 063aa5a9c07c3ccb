-- Which grammars a grammar imports, and which it can import.
use Rattle.std.specs.Prelude.{◌≡◌, ℕ, List, [], flat_map, Bool, false, ⊤}
use Rattle.g4_source.specs.declared.prequel.Prequel.{Prequel}
use Rattle.g4_source.specs.declared.prequel.Prequel.TheVariants.{Options, Import, Tokens, Channels}
use Rattle.g4_source.specs.declared.source.Source.{Source}
use Rattle.g4_source.specs.declared.source.GrammarKind.{GrammarKind}
use Rattle.g4_source.specs.declared.source.GrammarKind.TheVariants.{Combined, Lexer, Parser}

-- the names that are imported here
abbrev pub names_in : Prequel → List (List ℕ)
names_in (Options settings) = []
names_in (Import place names) = names
names_in (Tokens place names) = []
names_in (Channels place names) = []

-- the names of the grammars that a grammar imports, in order of its text
abbrev pub imported_by : Source → List (List ℕ)
imported_by source = flat_map names_in source.prequels

-- a lexer grammar imports lexer grammars, a parser grammar parser grammars, and a combined one any whose only mode is the default one
abbrev pub CanImport : GrammarKind → GrammarKind → Bool → Type 0
CanImport Lexer Lexer modes = ⊤
CanImport Lexer Parser modes = ⊥
CanImport Lexer Combined modes = ⊥
CanImport Parser Lexer modes = ⊥
CanImport Parser Parser modes = ⊤
CanImport Parser Combined modes = ⊥
CanImport Combined imported modes = modes ≡ false
