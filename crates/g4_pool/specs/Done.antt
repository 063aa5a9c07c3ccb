-- What is done with a worker's state: what its pass has seen and taught once some files were parsed with it.
use Rattle.std.specs.Prelude.{◌≡◌, ℕ, ◌+◌, List, All, Contains, Some, slice_get, true, false}
use Rattle.g4_classes.specs.Classes.{IsSymbol}
use Rattle.g4_decide.specs.Asked.{Told}
use Rattle.g4_learned.specs.Tables.{Tables}
use Rattle.g4_net.specs.Configurations.{Config}
use Rattle.g4_outcome.specs.Taught.{IsPassedIn, IsRunOf}
use Rattle.g4_outcome.specs.declared.input.Input.{Input}
use Rattle.g4_parse.specs.Teaching.{HasPassedRow}
use Rattle.g4_run.specs.Running.{RunOver}
use Rattle.g4_store.specs.declared.automaton.Fact.{Fact}
use Rattle.g4_store.specs.declared.automaton.Plan.{Plan}
use Rattle.g4_store.specs.Known.{HasAllRows}
use Rattle.g4_store.specs.Numbers.{Among, has}
use Rattle.g4_store.specs.Paths.{InKnown}
use Rattle.g4_pool.specs.Files.{Files}

-- The run over one of these files, by their numbers, passes the word of the table.
pub record IsPassedAt (t : Tables) (files : Files) (done : List ℕ) (f : Fact (List Config)) : Type 0 where
  pub number : ℕ
  pub among : Contains done number
  pub input : Input
  pub given : slice_get files.inputs number ≡ Some input
  pub passed : IsPassedIn t files.interpreter input f

-- There was want of room: a whole table of rows is known, and a row is passed that is not in it.
pub record IsShort (p : Plan Tables) (Passed : Fact (List Config) → Type 0) (pass : Told) : Type 0 where
  pub table : List (ℕ × List Config)
  pub known : (t : ℕ) (y : List Config) → Among (t, y) table → Among (t, y) pass.0.known
  pub all : HasAllRows p.rows table
  pub row : List Config
  pub passed : HasPassedRow Passed row
  pub missing : InKnown table row → ⊥

-- The pass has seen and taught nothing but what is passed. It has seen all of it, or there was want of room.
pub record HasPassed (p : Plan Tables) (Passed : Fact (List Config) → Type 0) (pass : Told) : Type 0 where
  pub within : (f : Fact (List Config)) → Among f pass.0.seen → Passed f
  pub teaches : (f : Fact (List Config)) → Among f pass.0.taught → Passed f
  pub whole : pass.1 ≡ false → (f : Fact (List Config)) → Passed f → Among f pass.0.seen
  pub short : pass.1 ≡ true → IsShort p Passed pass

-- The passes of these numbers were met into this one, of as many as there are jobs and the caller's, and with them these files were parsed.
pub record HasDone (p : Plan Tables) (files : Files) (jobs : ℕ) (numbers done : List ℕ) (pass : Told) : Type 0 where
  pub holds : (n : ℕ) → Contains numbers n → has n pass.0.holds ≡ true
  pub count : has 0 pass.0.holds ≡ true → pass.0.count ≡ jobs + 1
  pub passed : HasPassed p (IsPassedAt p.net files done) pass
  pub symbols : (number : ℕ) → Contains done number → (input : Input) → slice_get files.inputs number ≡ Some input
      → (over : RunOver) → IsRunOf files.interpreter input over → All IsSymbol over.word
