-- The grammar that files are together.
use Rattle.std.specs.Prelude.{◌≡◌, ℕ, List, ◌∷◌, map, Option, Some, None, IfSome, Contains, take, drop}
use Rattle.g4_source.specs.declared.rule.Rule.{Rule}
use Rattle.g4_source.specs.declared.source.Source.{Source}
use Rattle.g4_merge.specs.Merging.{merged_of}
use Rattle.g4_fetch.specs.Closures.{file_names}
use Rattle.g4_fetch.specs.declared.closure.GrammarFile.{GrammarFile}
use Rattle.g4_imports.specs.declared.composite.Composite.{Composite}
use Rattle.g4_imports.specs.declared.composite.Composites.{Composites}
use Rattle.g4_imports.specs.declared.composite.Split.{Split}

-- the grammars of files
abbrev pub sources_of : List GrammarFile → List Source
sources_of files = map (λ f. f.source) files

-- the first file's grammar merged with those of the others, and the names of all
pub record IsComposite (files : List GrammarFile) (composite : Composite) : Type 0 where
  pub main : GrammarFile
  pub imports : List GrammarFile
  pub parts : files ≡ main ∷ imports
  pub merged : composite.merged ≡ merged_of main.source (sources_of imports)
  pub names : composite.names ≡ file_names files

-- each rule is one of a file
abbrev pub RulesAreOfFiles : List GrammarFile → Composite → Type 0
RulesAreOfFiles files composite = (rule : Rule) → Contains composite.merged.source.rules rule
    → (file : GrammarFile) × Contains files file × Contains file.source.rules rule

-- the names of the files and their grammars
abbrev pub AreSplit : List GrammarFile → Split → Type 0
AreSplit files split = (split.names.items ≡ file_names files) × (split.sources.items ≡ sources_of files)

-- the files as one grammar, or, where a lexer grammar has this number, those before it as one, and the others as another
pub data AreComposites (files : List GrammarFile) : Option ℕ → Composites → Type 0 where
  as_one : (composites : Composites) → IsComposite files composites.grammar → composites.lexer ≡ None → AreComposites files None composites
  apart : (number : ℕ) (composites : Composites) (lexer : Composite) → IsComposite (take number files) composites.grammar
      → composites.lexer ≡ Some lexer → IsComposite (drop number files) lexer → AreComposites files (Some number) composites

-- each rule of both is one of a file
abbrev pub AreOfFiles : List GrammarFile → Composites → Type 0
AreOfFiles files composites = RulesAreOfFiles files composites.grammar × IfSome composites.lexer (RulesAreOfFiles files)
