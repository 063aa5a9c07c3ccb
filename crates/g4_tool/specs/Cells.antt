-- The limit on the cells of the learned automata.
use Rattle.std.specs.Prelude.{◌≡◌, ◌<◌, ◌+◌, ◌*◌, ℕ, List, Result, Ok, Err, length}
use Rattle.g4_load.specs.declared.fault.GrammarFault.TheVariants as faults
use Rattle.g4_load.specs.declared.interpreter.Interpreter.{Interpreter}
use Rattle.g4_load.specs.declared.stop.Halt.{Halt}
use Rattle.g4_load.specs.declared.stop.Halt.TheVariants as halts
use Rattle.g4_load.specs.declared.stop.Stop.TheVariants as stops
use Rattle.g4_tool.specs.declared.cells.TheConstants.{MOST_CELLS}

-- how many cells there are: one for each row and each token type, EOF or END
abbrev pub cells_of : ℕ → ℕ → ℕ
cells_of rows types = rows * (types + 2)

-- the learned automata of the grammar have more cells, with so many rows, than are allowed
abbrev pub HasManyCells : ℕ → Interpreter → Type 0
HasManyCells rows interpreter = MOST_CELLS < cells_of rows (length interpreter.shown)

-- the grammar of this name is refused exactly where it has too many cells, unless memory runs out
abbrev pub Refuses : List ℕ → ℕ → Interpreter → Result (Unit {0}) Halt → Type 0
Refuses name rows interpreter (Ok u) = ¬ (HasManyCells rows interpreter)
Refuses name rows interpreter (Err (halts.Stop stop)) = HasManyCells rows interpreter × (stop ≡ stops.Fault name faults.Cells)
Refuses name rows interpreter (Err halts.Failed) = ⊥
Refuses name rows interpreter (Err halts.NoMemory) = Unit {0}
