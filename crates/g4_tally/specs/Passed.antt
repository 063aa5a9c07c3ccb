-- What a pass has seen and taught once runs were made with it, or with passes that it was met by.
use Rattle.std.specs.Prelude.{◌≡◌, ℕ, List, All, Contains, true, false}
use Rattle.g4_classes.specs.Classes.{IsSymbol}
use Rattle.g4_decide.specs.Asked.{Told}
use Rattle.g4_learned.specs.Tables.{Tables}
use Rattle.g4_net.specs.Configurations.{Config}
use Rattle.g4_parse.specs.Teaching.{HasPassedRow, IsPassed}
use Rattle.g4_run.specs.Running.{RunOver}
use Rattle.g4_store.specs.declared.automaton.Fact.{Fact}
use Rattle.g4_store.specs.declared.automaton.Plan.{Plan}
use Rattle.g4_store.specs.Known.{HasAllRows}
use Rattle.g4_store.specs.Numbers.{Among}
use Rattle.g4_store.specs.Paths.{InKnown}

-- these runs pass the word of the table
abbrev pub IsPassedBy : Tables → List RunOver → Fact (List Config) → Type 0
IsPassedBy t runs f = (over : RunOver) × Contains runs over × IsPassed t over.values over.word f

-- each goes over symbols alone
abbrev pub HaveSymbols : List RunOver → Type 0
HaveSymbols runs = All (λ over. All IsSymbol over.word) runs

-- There was want of room: a whole table of rows is known, and the runs pass a row that is not in it.
pub record IsShort (p : Plan Tables) (runs : List RunOver) (pass : Told) : Type 0 where
  pub table : List (ℕ × List Config)
  pub known : (t : ℕ) (y : List Config) → Among (t, y) table → Among (t, y) pass.0.known
  pub all : HasAllRows p.rows table
  pub row : List Config
  pub passed : HasPassedRow (IsPassedBy p.net runs) row
  pub missing : InKnown table row → ⊥

-- The pass has seen and taught nothing but words of the table that these runs pass. It has seen all of them, or there was want of room.
pub record HasPassed (p : Plan Tables) (runs : List RunOver) (pass : Told) : Type 0 where
  pub within : (f : Fact (List Config)) → Among f pass.0.seen → IsPassedBy p.net runs f
  pub teaches : (f : Fact (List Config)) → Among f pass.0.taught → IsPassedBy p.net runs f
  pub whole : pass.1 ≡ false → (f : Fact (List Config)) → IsPassedBy p.net runs f → Among f pass.0.seen
  pub short : pass.1 ≡ true → IsShort p runs pass
