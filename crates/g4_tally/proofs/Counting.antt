-- What a listing shows has as many rows and edges as were counted.
use Rattle.std.proofs.Common.{◌≡◌, ◌≢◌, ℕ, zero, suc, ◌+◌, ◌*◌, ◌-◌, ◌<◌, ◌≤◌, inl, inr, List, length, get_or, count_by, ap, arith, refl, sym, ◌∙◌}
use mathlib.Core.Option.{some}
use lib.ListN.{get_elem?}
use Rattle.std.proofs.lemmas.Bool.{cases_lt}
use Rattle.g4_store.specs.declared.automaton.Fact.{Fact}
use Rattle.g4_store.specs.declared.automaton.Fact.TheVariants.{Start, Cell}
use Rattle.g4_store.specs.declared.automaton.Led.{Led}
use Rattle.g4_store.specs.declared.automaton.Led.TheVariants.{Row, End}
use Rattle.g4_store.specs.declared.automaton.Plan.{Plan}
use Rattle.g4_store.specs.declared.view.View.{View}
use Rattle.g4_store.specs.Closing.{Closes}
use Rattle.g4_store.specs.Numbers.{Among}
use Rattle.g4_store.specs.Words.{IsOf, Names, Stands, cell_at}
use Rattle.g4_store.proofs.Lists.{in_range}
use Rattle.g4_tally.specs.Counts.{IsEdgeOf, IsRowOf, is_filled}
use Rattle.g4_tally.specs.Sizes.{HasSize}
use Rattle.g4_tally.proofs.Edges.{among_edges, apart_edges, edges, length_edges, to_edges}
use Rattle.g4_tally.proofs.Sizes.{among_is_at, apart_from, at_is_among, once_from}

-- the place of a row and a column is among those of so many rows
place_within : (r n c s : ℕ) → r < n → s < c → r * c + s < n * c
place_within r zero c s row column = absurd (omega arith)
place_within zero (suc n) c s row column = omega arith
place_within (suc r) (suc n) c s row column = omega (arith, place_within r n c s (omega arith) column)

-- a place among those of so many rows is that of a row and a column
pub record IsPlace (n c k : ℕ) : Type 0 where
  pub row : ℕ
  pub column : ℕ
  pub row_within : row < n
  pub column_within : column < c
  pub is : k ≡ row * c + column

place_of : (n c k : ℕ) → k < n * c → IsPlace n c k
place_of zero c k within = absurd (omega arith)
place_of (suc n) c k within = elim (cases_lt k c) [
  | inl less ↦ record { row = 0; column = k; row_within = omega arith; column_within = less; is = omega arith }
  | inr past ↦
      let rest = place_of n c (k - c) (omega (arith, past)) in
      record {
        row = suc rest.row;
        column = rest.column;
        row_within = omega (arith, rest.row_within);
        column_within = rest.column_within;
        is = omega (arith, past, rest.is);
      }
]

-- a word that names something does not hold 0
names_something : {C : Type 0} (rows : List C) (led : Led C) (w : ℕ) → Names rows led w → w ≢ 0
names_something rows (Row y mark) w names = λ none. omega (arith, names.2, none)
names_something rows (End code) w names = λ none. omega (arith, names, none)

module _ {N C : Type 0} (starts : N → ℕ → C → Type 0) (leads : N → C → ℕ → Led C → Type 0) (p : Plan N) (pass : View C)
    (words : List ℕ) (rows : List C) (closes : Closes starts leads p pass words rows) where
  abbrev Filled : Fact C → Type 0
  Filled = Stands p words rows

  -- ---- the rows

  is_there : (y : C) (f : Fact C) → Filled f → IsOf y f → Among y rows
  is_there y (Start i z) stands of = at_is_among rows stands.1.0 y (stands.1.1 ∙ ap some of)
  is_there y (Cell x s (Row z mark)) stands of =
      let names = stands.1.2 in at_is_among rows names.0 y (names.1 ∙ ap some of)
  is_there y (Cell x s (End code)) stands of = absurd of

  pub rows_size : HasSize (IsRowOf Filled) (length rows)
  rows_size = record {
    items = rows;
    all = λ y. (
      λ row. is_there y row.0 row.1 row.2,
      λ among.
          let at = among_is_at rows y among in
          let named = closes.named at.0 y at.1 in
          (named.by, named.stands, named.of),
    );
    once = closes.shows.differ;
    count = refl;
  }

  -- ---- the edges, by the words of the cells

  module _ (cells : List ℕ) (long : length cells ≡ p.rows * p.columns)
      (same : (k : ℕ) → k < p.rows * p.columns → get_or cells k 0 ≡ get_or words (p.rows + k) 0) where
    of_cell : (r s : ℕ) (x : C) → get_elem? rows r ≡ some x → s < p.columns
        → get_or cells (r * p.columns + s) 0 ≡ get_or words (cell_at p r s) 0
    of_cell r s x at column =
        same (r * p.columns + s)
        (place_within r p.rows p.columns s (omega (arith, in_range rows r x at, closes.shows.fits)) column)

    to_edge : (x : C) (s : ℕ) → IsEdgeOf Filled (x, s) → Among (x, s) (edges rows p.columns cells)
    to_edge x s edge =
        let led = edge.0 in
        let column = edge.1.0 in
        let r = edge.1.1.0 in
        let at = edge.1.1.1 in
        let names = edge.1.1.2 in
        to_edges rows p.columns cells r s x at column (λ none.
        names_something rows led (get_or words (cell_at p r s) 0) names (sym (of_cell r s x at column) ∙ none))

    from_edge : (x : C) (s : ℕ) → Among (x, s) (edges rows p.columns cells) → IsEdgeOf Filled (x, s)
    from_edge x s among =
        let found = among_edges rows p.columns cells x s among in
        let r = found.0 in
        let at = found.1.0 in
        let column = found.1.1.0 in
        elim (closes.shows.cells r s x at column) [
          | inl none ↦ absurd (found.1.1.1 (of_cell r s x at column ∙ none))
          | inr led ↦ (led.0, (column, (r, at, led.2)))
        ]

    past_rows : (k : ℕ) → length rows * p.columns ≤ k → k < length cells → get_or cells k 0 ≡ 0
    past_rows k past within =
        let place = place_of p.rows p.columns k (omega (arith, within, long)) in
        let later : length rows ≤ place.row = elim (cases_lt place.row (length rows)) [
          | inl less ↦ absurd (omega (
            arith,
            place.is,
            past,
            place_within place.row (length rows) p.columns place.column less
                place.column_within,
          ))
          | inr more ↦ more
        ] in
        same k (omega (arith, within, long))
        ∙ (ap (λ (n : ℕ). get_or words (p.rows + n) 0) place.is
        ∙ closes.shows.no_cell place.row place.column later place.row_within place.column_within)

    pub edges_size : HasSize (IsEdgeOf Filled) (count_by is_filled cells)
    edges_size = record {
      items = edges rows p.columns cells;
      all = λ edge. (to_edge edge.0 edge.1, from_edge edge.0 edge.1);
      once = once_from (edges rows p.columns cells) (apart_edges rows p.columns cells (apart_from rows closes.shows.differ));
      count = length_edges rows p.columns cells past_rows;
    }
