-- How much a table has: how many rows and how many cells that are filled, each the size of a set.
use Rattle.std.specs.Prelude.{ℕ, Bool, not, ◌==◌}
use Rattle.g4_store.specs.declared.automaton.Fact.{Fact}
use Rattle.g4_store.specs.declared.automaton.Fact.TheVariants.{Cell}
use Rattle.g4_store.specs.declared.automaton.Led.{Led}
use Rattle.g4_store.specs.Words.{IsOf}
use Rattle.g4_tally.specs.Sizes.{HasSize}
use Rattle.g4_tally.specs.declared.counts.Counts.{Counts}

module _ {C : Type 0} where
  -- a filled start or cell leads to the row
  abbrev pub IsRowOf : (Fact C → Type 0) → C → Type 0
  IsRowOf Filled row = (f : Fact C) × Filled f × IsOf row f

  -- the cell of the row and the column is filled, whatever it leads to
  abbrev pub IsEdgeOf : (Fact C → Type 0) → C × ℕ → Type 0
  IsEdgeOf Filled edge = (led : Led C) × Filled (Cell edge.0 edge.1 led)

  -- How many rows and edges there are, where these starts and cells are filled. A start is no edge.
  pub record AreFilled (Filled : Fact C → Type 0) (counts : Counts) : Type 0 where
    pub rows : HasSize (IsRowOf Filled) counts.rows
    pub edges : HasSize (IsEdgeOf Filled) counts.edges

-- the word of a cell is filled
abbrev pub is_filled : ℕ → Bool
is_filled word = not (word == 0)
