-- The definite clauses that decide which grammars have a mode beside the default one.
use Rattle.std.specs.Prelude.{◌≡◌, ◌<◌, ◌⊎◌, ℕ, List, [], ◌∷◌, All, true, Some, Contains, length, slice_get}
use Rattle.g4_horn.specs.declared.clause.Clause.{Clause}
use Rattle.g4_fetch.specs.declared.closure.GrammarFile.{GrammarFile}
use Rattle.g4_fetch.specs.declared.closure.Import.{Import}
use Rattle.g4_fetch.specs.declared.closure.WithImports.{WithImports}
use Rattle.g4_imports.specs.Modes.{declares_mode}

-- the file with this number declares a mode
pub record Declares (grammar : WithImports) (number : ℕ) : Type 0 where
  pub file : GrammarFile
  pub there : slice_get grammar.files number ≡ Some file
  pub declared : declares_mode file.source ≡ true

-- an import between these files
pub record HasImport (grammar : WithImports) (importer imported : ℕ) : Type 0 where
  pub import : Import
  pub of : Contains grammar.imports import
  pub from : import.importer ≡ importer
  pub to : import.imported ≡ imported

-- the clause needs one number, and its head imports this
pub record Imports (grammar : WithImports) (clause : Clause) : Type 0 where
  pub imported : ℕ
  pub needs : clause.needs.items ≡ imported ∷ []
  pub has : HasImport grammar clause.head imported

-- the clause needs nothing, and its head declares a mode
pub record DeclaresItself (grammar : WithImports) (clause : Clause) : Type 0 where
  pub needs : clause.needs.items ≡ []
  pub has : Declares grammar clause.head

-- the clause is right: its head declares a mode, or imports what it needs
pub record IsRight (grammar : WithImports) (clause : Clause) : Type 0 where
  pub within : clause.head < length grammar.files
  pub why : DeclaresItself grammar clause ⊎ Imports grammar clause

-- one of the clauses has this head and these needs
pub record HasClause (clauses : List Clause) (head : ℕ) (needs : List ℕ) : Type 0 where
  pub clause : Clause
  pub among : Contains clauses clause
  pub head_is : clause.head ≡ head
  pub needs_are : clause.needs.items ≡ needs

-- right clauses, among them those of the first files, so many, and of these imports
pub record Covers (grammar : WithImports) (count : ℕ) (imports : List Import) (clauses : List Clause) : Type 0 where
  pub right : All (IsRight grammar) clauses
  pub declared : (number : ℕ) → number < count → Declares grammar number → HasClause clauses number []
  pub imported : (import : Import) → Contains imports import → import.importer < length grammar.files
      → import.imported < length grammar.files → HasClause clauses import.importer (import.imported ∷ [])
