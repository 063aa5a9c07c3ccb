-- The main grammar and then its imports.
use Rattle.std.proofs.Common.{◌≡◌, ◌+◌, ◌<◌, ◌≤◌, ℕ, List, Option, Result, Ok, Err, length, subst, arith}
use Rattle.g4_fetch.specs.Closures.{FetchesGrammar, FetchesImports, GivesOrHaltsAfter, Halted, IsHaltAfter, read_first, unread}
use Rattle.g4_fetch.specs.Files.{Files}
use Rattle.g4_fetch.specs.Names.{prefix_of}
use Rattle.g4_fetch.specs.Reading.{IsHaltOf, Reads}
use Rattle.g4_fetch.specs.declared.closure.GrammarFile.{GrammarFile}
use Rattle.g4_fetch.specs.declared.closure.WithImports.{WithImports}
use Rattle.g4_fetch.specs.declared.stop.Halt.{Halt}
use Rattle.g4_fetch.specs.declared.stop.Halt.TheVariants as halts
use Rattle.std.specs.Result.{IfOk}
use Rattle.g4_fetch.proofs.Continuing.{halts_too}

-- the main file is not read
pub not_main : (files : Files) (library : Option (List ℕ)) (name : List ℕ) (halt : Halt) → IsHaltOf (Reads files name) halt
    → IsHaltAfter (FetchesGrammar files library name) halt
not_main files library name (halts.Stop stop) is = (_, unread stop is)
not_main files library name halts.Failed is = tt
not_main files library name halts.NoMemory is = tt

-- the main file is read, and then its imports
pub main_and_imports : (files : Files) (library : Option (List ℕ)) (name prefix : List ℕ) (main : GrammarFile)
    → prefix ≡ prefix_of library name → main.name ≡ name → Reads files name (Ok main.source)
    → (r : Result WithImports Halted) → FetchesImports files prefix main r → FetchesGrammar files library name r
main_and_imports files library name prefix main folder named reads r is =
    read_first main.source r reads
    (subst (λ (n : List ℕ). FetchesImports files (prefix_of library name) (record { name = n; source = main.source }) r) named
    (subst (λ (p : List ℕ). FetchesImports files p main r) folder is))

-- what holds of a call's answer wherever another thing does
pub gives_too : {X : Type 0} (P Q : Result X Halted → Type 0) → ((r : Result X Halted) → P r → Q r)
    → (answer : Result X Halt) → GivesOrHaltsAfter P answer → GivesOrHaltsAfter Q answer
gives_too P Q step (Ok grammar) is = step (Ok grammar) is
gives_too P Q step (Err halt) is = halts_too P Q step halt is

-- more files than before
pub grown : (m n : ℕ) → n ≡ m + 1 → (r : Result WithImports Halt) → IfOk r (λ x. n ≤ length x.files) → IfOk r (λ x. m < length x.files)
grown m n one (Ok x) less = omega (arith, one, less)
grown m n one (Err halt) less = tt
