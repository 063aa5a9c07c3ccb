-- Which words stand for what: first the parents of the rows, then the cells, then the starts.
use Rattle.std.specs.Prelude.{◌≡◌, ◌⊎◌, ℕ, ◌+◌, ◌*◌, ◌<◌, ◌≤◌, List, length, slice_index}
use mathlib.Core.Option.{some}
use lib.ListN.{get_elem?}
use Rattle.g4_store.specs.declared.automaton.Led.{Led}
use Rattle.g4_store.specs.declared.automaton.Led.TheVariants.{Row, End}
use Rattle.g4_store.specs.declared.automaton.Fact.{Fact}
use Rattle.g4_store.specs.declared.automaton.Fact.TheVariants.{Start, Cell}
use Rattle.g4_store.specs.declared.automaton.Plan.{Plan}

module _ {N : Type 0} where
  -- the word of the cell of a row and a column
  abbrev pub cell_at : Plan N → ℕ → ℕ → ℕ
  cell_at p r s = p.rows + (r * p.columns + s)

  -- the word of a start
  abbrev pub start_at : Plan N → ℕ → ℕ
  start_at p i = p.rows + (p.rows * p.columns + i)

  -- how many words there are
  abbrev pub size_of : Plan N → ℕ
  size_of p = p.rows + (p.rows * p.columns + p.starts)

-- a word that names row t with a mark
abbrev pub row_word : ℕ → ℕ → ℕ
row_word t mark = 131072 * mark + (2 * t + 2)

-- a word that names no row
abbrev pub end_word : ℕ → ℕ
end_word code = 2 * code + 1

module _ {C : Type 0} where
  -- w names what is led to
  abbrev pub Names : List C → Led C → ℕ → Type 0
  Names rows (Row y mark) w = (t : ℕ) × (get_elem? rows t ≡ some y) × (w ≡ row_word t mark)
  Names rows (End code) w = w ≡ end_word code

  -- the fact names this content
  abbrev pub IsTo : C → Led C → Type 0
  IsTo y (Row z mark) = z ≡ y
  IsTo y (End code) = ⊥

  abbrev pub IsOf : C → Fact C → Type 0
  IsOf y (Start i z) = z ≡ y
  IsOf y (Cell x s led) = IsTo y led

module _ {N C : Type 0} where
  -- the fact stands in the words
  abbrev pub Stands : Plan N → List ℕ → List C → Fact C → Type 0
  Stands p words rows (Start i y) = (i < p.starts) × ((t : ℕ) × (get_elem? rows t ≡ some y) × (slice_index words (start_at p i) ≡ t + 1))
  Stands p words rows (Cell x s led) =
      (s < p.columns) × ((r : ℕ) × (get_elem? rows r ≡ some x) × Names rows led (slice_index words (cell_at p r s)))

module _ {N C : Type 0} (starts : N → ℕ → C → Type 0) (leads : N → C → ℕ → Led C → Type 0) where
  -- row r, with content x, follows from its parent word w
  abbrev pub Follows : Plan N → List C → ℕ → C → ℕ → Type 0
  Follows p rows r x w =
      ((i : ℕ) × (i < p.starts) × (w ≡ 1 + i) × starts p.net i x)
      ⊎ ((q s mark : ℕ) × (y : C) × (q < r) × (get_elem? rows q ≡ some y) × (s < p.columns)
      × (w ≡ 1 + (p.starts + (q * p.columns + s))) × leads p.net y s (Row x mark))

  -- The words show these rows: the automaton is sound.
  pub record Shows (p : Plan N) (words : List ℕ) (rows : List C) : Type 0 where
    pub size : length words ≡ size_of p
    pub limit : p.rows ≤ 65536
    pub fits : length rows ≤ p.rows
    pub differ : (r q : ℕ) (x : C) → get_elem? rows r ≡ some x → get_elem? rows q ≡ some x → r ≡ q
    pub parents : (r : ℕ) (x : C) → get_elem? rows r ≡ some x → Follows p rows r x (slice_index words r)
    pub no_row : (r : ℕ) → length rows ≤ r → r < p.rows → slice_index words r ≡ 0
    pub cells : (r s : ℕ) (x : C) → get_elem? rows r ≡ some x → s < p.columns
        → (slice_index words (cell_at p r s) ≡ 0) ⊎ ((led : Led C) × leads p.net x s led
        × Names rows led (slice_index words (cell_at p r s)))
    pub no_cell : (r s : ℕ) → length rows ≤ r → r < p.rows → s < p.columns → slice_index words (cell_at p r s) ≡ 0
    pub begun : (i : ℕ) → i < p.starts
        → (slice_index words (start_at p i) ≡ 0) ⊎ ((t : ℕ) × (y : C) × starts p.net i y × (get_elem? rows t ≡ some y)
        × (slice_index words (start_at p i) ≡ t + 1))
