-- What a load found.
use Rattle.std.specs.Prelude.{◌≡◌, ◌≢◌, ℕ, ◌+◌, ◌<◌, List, [], ◌∷◌, Option, Some, None, Bool, true, false}
use lib.ListN.{get_elem?}
use mathlib.Core.Option as maybe
use Rattle.g4_store.specs.declared.automaton.Led.{Led}
use Rattle.g4_store.specs.declared.automaton.Led.TheVariants.{Row, End}
use Rattle.g4_store.specs.declared.automaton.Fact.TheVariants.{Start, Cell}
use Rattle.g4_store.specs.declared.automaton.Plan.{Plan}
use Rattle.g4_store.specs.declared.board.Found.{Found}
use Rattle.g4_store.specs.declared.board.Found.TheVariants as found
use Rattle.g4_store.specs.declared.view.View.{View}
use Rattle.g4_store.specs.Numbers.{Among}
use Rattle.g4_store.specs.Words.{cell_at, start_at, row_word, end_word}
use Rattle.g4_store.specs.Views.{saw, looked, NoStart, NoCell}

-- what the word of a cell says
abbrev pub Decodes : ℕ → Found → Type 0
Decodes w found.Nothing = w ≡ 0
Decodes w (found.Row t mark) = (w ≡ row_word t mark) × (t < 65536)
Decodes w (found.End code) = w ≡ end_word code

-- whether a word is filled
abbrev pub IsFilledAt : ℕ → Bool → Type 0
IsFilledAt w true = w ≢ 0
IsFilledAt w false = w ≡ 0

-- what the word of a start says
abbrev pub DecodesStart : ℕ → Option ℕ → Type 0
DecodesStart w None = w ≡ 0
DecodesStart w (Some t) = w ≡ t + 1

module _ {C : Type 0} where
  -- which rows an end or a row tells of
  abbrev pub Told : Led C → List (ℕ × C) → Type 0
  Told (Row y mark) told = (t : ℕ) × (told ≡ (t, y) ∷ [])
  Told (End code) told = told ≡ []

module _ {N C : Type 0} (starts : N → ℕ → C → Type 0) (leads : N → C → ℕ → Led C → Type 0) where
  -- what a pass was told of a start, and what it knows afterwards
  abbrev pub StartFound : Plan N → ℕ → View C → View C → Option ℕ → Type 0
  StartFound p i old new None = (new ≡ looked (start_at p i) 0 old) × NoStart i old.seen
  StartFound p i old new (Some t) =
      (t < p.rows) × ((y : C) × starts p.net i y × (new ≡ looked (start_at p i) (t + 1) (saw (Start i y) ((t, y) ∷ []) old)))

  -- what a pass was told of the cell of row r, which has this content
  abbrev pub CellFound : Plan N → ℕ → C → ℕ → View C → View C → Found → Type 0
  CellFound p r x s old new found.Nothing = (new ≡ looked (cell_at p r s) 0 old) × NoCell x s old.seen
  CellFound p r x s old new (found.Row t mark) =
      (t < p.rows) × ((y : C) × leads p.net x s (Row y mark)
      × (new ≡ looked (cell_at p r s) (row_word t mark) (saw (Cell x s (Row y mark)) ((t, y) ∷ []) old)))
  CellFound p r x s old new (found.End code) =
      leads p.net x s (End code) × (new ≡ looked (cell_at p r s) (end_word code) (saw (Cell x s (End code)) [] old))

  -- what the book was told of a start: where it is empty, that no fact of it stands
  abbrev pub StartReread : Plan N → ℕ → View C → View C → Bool → Type 0
  StartReread p i old new false = (new ≡ old) × NoStart i old.facts
  StartReread p i old new true =
      (t : ℕ) × (y : C) × starts p.net i y × (get_elem? old.rows t ≡ maybe.some y) × Among (Start i y) old.facts
      × (new ≡ saw (Start i y) ((t, y) ∷ []) old)

  -- what the book was told of a cell: where it is empty, that no fact of it stands
  abbrev pub CellReread : Plan N → C → ℕ → View C → View C → Bool → Type 0
  CellReread p x s old new false = (new ≡ old) × NoCell x s old.facts
  CellReread p x s old new true =
      (led : Led C) × (told : List (ℕ × C)) × leads p.net x s led × Told led told × Among (Cell x s led) old.facts
      × ((t : ℕ) (y : C) → Among (t, y) told → get_elem? old.rows t ≡ maybe.some y) × (new ≡ saw (Cell x s led) told old)
