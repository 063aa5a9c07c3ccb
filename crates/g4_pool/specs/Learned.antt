-- What the caller's pass has once all files were parsed and the passes of all workers were met into it.
use Rattle.std.specs.Prelude.{◌↔◌, ℕ, List, Contains}
use Rattle.g4_decide.specs.Asked.{Told}
use Rattle.g4_learned.specs.Tables.{Tables}
use Rattle.g4_load.specs.declared.interpreter.Interpreter.{Interpreter}
use Rattle.g4_outcome.specs.Taught.{IsRunOf}
use Rattle.g4_outcome.specs.declared.input.Input.{Input}
use Rattle.g4_run.specs.Running.{RunOver}
use Rattle.g4_store.specs.declared.automaton.Plan.{Plan}
use Rattle.g4_store.specs.Views.{IsWhole}
use Rattle.g4_tally.specs.Passed.{HasPassed, HaveSymbols}
use Rattle.g4_pool.specs.Files.{Files}

-- the runs are those over the inputs that have one
abbrev pub AreRunsOf : Interpreter → List Input → List RunOver → Type 0
AreRunsOf interpreter inputs runs =
    (over : RunOver) → Contains runs over ↔ ((input : Input) × Contains inputs input × IsRunOf interpreter input over)

-- The pass is whole, and has what the runs over all files pass.
pub record HasLearned (p : Plan Tables) (files : Files) (pass : Told) : Type 0 where
  pub whole : IsWhole pass.0
  pub runs : List RunOver
  pub are : AreRunsOf files.interpreter files.inputs runs
  pub symbols : HaveSymbols runs
  pub passed : HasPassed p runs pass
