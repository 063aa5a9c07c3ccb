-- What is still to do while imports are fetched, the next first.
use Rattle.std.specs.Prelude.{◌≡◌, ℕ, List, [], ◌∷◌, map, reverse, Option, Some, None, Result, Ok, Err}
use Rattle.g4_fetch.specs.Files.{Files}
use Rattle.g4_fetch.specs.Closures.{Fetches, Halted, IsHaltAfter, number_of, with_import}
use Rattle.g4_fetch.specs.Names.{grammar_file}
use Rattle.g4_fetch.specs.declared.closure.Import.{Import}
use Rattle.g4_fetch.specs.declared.closure.WithImports.{WithImports}
use Rattle.g4_fetch.specs.declared.fetching.Fetching.{Fetching}
use Rattle.g4_fetch.specs.declared.reached.Missing.{Missing}
use Rattle.g4_fetch.specs.declared.stop.Halt.{Halt}
use Rattle.g4_fetch.specs.declared.task.Task.{Task}
use Rattle.g4_fetch.specs.declared.task.Task.TheVariants as tasks

-- What comes of a grammar by tasks, one after another.
pub data Continues (files : Files) (prefix : List ℕ) : List Task → WithImports → Result WithImports Halted → Type 0 where
  nothing : (grammar : WithImports) → Continues files prefix [] grammar (Ok grammar)
  tests : (import : Import) (rest : List Task) (grammar : WithImports) (result : Result WithImports Halted)
      → Continues files prefix rest (with_import grammar import) result → Continues files prefix (tasks.Test import ∷ rest) grammar result
  stops : (importer : ℕ) (name : List ℕ) (rest : List Task) (grammar : WithImports) (halted : Halted)
      → Fetches files prefix importer (name ∷ []) grammar (Err halted)
      → Continues files prefix (tasks.Fetch importer name ∷ rest) grammar (Err halted)
  fetches : (importer : ℕ) (name : List ℕ) (rest : List Task) (grammar more : WithImports) (result : Result WithImports Halted)
      → Fetches files prefix importer (name ∷ []) grammar (Ok more) → Continues files prefix rest more result
      → Continues files prefix (tasks.Fetch importer name ∷ rest) grammar result

-- to fetch what a grammar imports, in order
abbrev pub fetches_of : ℕ → List (List ℕ) → List Task
fetches_of importer names = map (λ name. tasks.Fetch importer name) names

-- what comes of what is reached, by what is still to do
abbrev pub GoesOn : Files → List ℕ → Fetching → Result WithImports Halted → Type 0
GoesOn files prefix fetching result = Continues files prefix (reverse fetching.tasks.items) fetching.reached result

-- the import's grammar is not among those that are reached
pub record IsMissing (prefix : List ℕ) (reached : WithImports) (missing : Missing) : Type 0 where
  pub named : missing.file ≡ grammar_file prefix missing.name
  pub none : number_of reached missing.file ≡ None

-- to fetch it
abbrev pub task_of : Missing → Task
task_of missing = tasks.Fetch missing.importer missing.name

-- the task is carried out, or its grammar is missing
abbrev pub IsCarriedOut : List ℕ → Task → WithImports → WithImports → Option Missing → Type 0
IsCarriedOut prefix task before after None = (after.files ≡ before.files)
    × ((files : Files) (rest : List Task) (result : Result WithImports Halted) → Continues files prefix rest after result
    → Continues files prefix (task ∷ rest) before result)
IsCarriedOut prefix task before after (Some missing) = (after ≡ before) × (task ≡ task_of missing) × IsMissing prefix before missing

-- tasks are carried out up to the first whose grammar is missing, or all
abbrev pub IsNext : List ℕ → Fetching → Fetching → Option Missing → Type 0
IsNext prefix before after None = (after.reached.files ≡ before.reached.files)
    × ((files : Files) → GoesOn files prefix before (Ok after.reached))
IsNext prefix before after (Some missing) = IsMissing prefix after.reached missing × (after.reached.files ≡ before.reached.files)
    × ((files : Files) (result : Result WithImports Halted)
    → Continues files prefix (task_of missing ∷ reverse after.tasks.items) after.reached result → GoesOn files prefix before result)

-- a missing grammar is fetched, with its imports still to do; or the call halts there
abbrev pub IsFetched : Files → List ℕ → Fetching → Missing → Result Fetching Halt → Type 0
IsFetched files prefix before missing (Ok after) = (result : Result WithImports Halted) → GoesOn files prefix after result
    → Continues files prefix (task_of missing ∷ reverse before.tasks.items) before.reached result
IsFetched files prefix before missing (Err halt) =
    IsHaltAfter (Continues files prefix (task_of missing ∷ reverse before.tasks.items) before.reached) halt
