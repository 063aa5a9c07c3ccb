-- What is told of how much was learned.
use Rattle.std.specs.Prelude.{◌≡◌, ℕ, List, [], ◌∷◌, Bool, true, false, Option, Some, None}
use Rattle.g4_load.specs.declared.interpreter.Interpreter.{Interpreter}
use Rattle.g4_outcome.specs.declared.input.Input.{Input}
use Rattle.g4_outcome.specs.declared.line.Line.{Line}
use Rattle.g4_outcome.specs.declared.line.Line.TheVariants.{ToOut}
use Rattle.g4_pool.specs.Learned.{AreRunsOf}
use Rattle.g4_run.specs.Running.{RunOver}
use Rattle.g4_tally.specs.Tallies.{IsTally, tally_line}
use Rattle.g4_tally.specs.declared.tally.Tally.{Tally}

-- nothing, unless it is asked for: then the tally of the runs over all files that have tokens, with room for so many rows
abbrev pub IsTold : Bool → ℕ → Interpreter → List Input → Option Tally → Type 0
IsTold asked rows interpreter inputs None = asked ≡ false
IsTold asked rows interpreter inputs (Some tally) = (asked ≡ true)
    × ((runs : List RunOver) × AreRunsOf interpreter inputs runs × IsTally rows interpreter.net runs tally)

-- its line
abbrev pub learned_lines : Option Tally → List Line
learned_lines None = []
learned_lines (Some tally) = ToOut (tally_line tally) ∷ []
