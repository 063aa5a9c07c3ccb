-- The words of the table that runs pass are those of the rows and edges that they pass.
use Rattle.std.proofs.Common.{◌≡◌, ◌⊎◌, ◌↔◌, ◌<◌, ◌≤◌, ◌^◌, ℕ, suc, inl, inr, List, [], ◌∷◌, All, drop, map, ap, arith, refl, subst, sym, ◌∙◌}
use Rattle.std.proofs.lemmas.List.Elements.{All-contains, All-drop}
use mathlib.Core.Option.{some}
use lib.ListN.{get_elem?}
use Rattle.g4_net.specs.Configurations.{Config, wildcard}
use Rattle.g4_net.specs.Lookahead.{Next, Start}
use Rattle.g4_net.specs.Network.{ParserNetwork}
use Rattle.g4_net.specs.Prediction.{Judges, Path, Sll, SllFrom, Verdict, ended, led_to}
use Rattle.g4_net.specs.Prediction as prediction
use Rattle.g4_classes.specs.Classes.{IsSymbol}
use Rattle.g4_guards.proofs.Same.{sll_over}
use Rattle.g4_guards.specs.Levels.{AllowedAt, IsCondition, IsDecision, IsGuard, any_level, few_digits}
use Rattle.g4_parse.specs.Teaching.{IsConditionAt}
use Rattle.g4_run.specs.Running.{AllowsAt, Run, RunOver}
use Rattle.g4_store.specs.declared.automaton.Fact.{Fact}
use Rattle.g4_store.specs.declared.automaton.Fact.TheVariants.{Cell}
use Rattle.g4_store.specs.declared.automaton.Fact.TheVariants as fact
use Rattle.g4_store.specs.declared.automaton.Led.{Led}
use Rattle.g4_store.specs.declared.automaton.Led.TheVariants.{Row, End}
use Rattle.g4_store.specs.Numbers.{Among}
use Rattle.g4_store.specs.Paths.{IsIn, cells_of, next_facts}
use Rattle.g4_store.specs.Words.{IsOf}
use Rattle.g4_learned.specs.Stored.{facts_from, stored_entry, stored_led}
use Rattle.g4_learned.specs.Tables.{AreTables, IsStartOf, Tables, column_of}
use Rattle.g4_tally.specs.Counts.{IsEdgeOf, IsRowOf}
use Rattle.g4_tally.specs.Passed.{HaveSymbols, IsPassedBy}
use Rattle.g4_tally.specs.Passing.{AreOneEdge, ComesTo, IsLedTo, IsPassedEdge, IsPassedPath, IsPassedRow, LooksAt, Onward}
use Rattle.g4_tally.specs.Sizes.{HasClasses, HasSize}
use Rattle.g4_tally.proofs.Sizes.{ArePicks, pick, pick_at, pick_from, pick_to, picks_length}

-- ---- what is looked at: symbols, of which only the last ends

abbrev GoesOnBy : prediction.Led → List prediction.Looked → Type 0 → Type 0
GoesOnBy (led_to row) ls Later = Later
GoesOnBy (ended v) ls Later = ls ≡ []

abbrev AreLooks : List prediction.Looked → Type 0
AreLooks [] = Unit {0}
AreLooks (l ∷ ls) = IsSymbol l.symbol × GoesOnBy l.led ls (AreLooks ls)

judged_looks : (D : Config → Type 0) (a k : ℕ) (Later : Verdict → List prediction.Looked → Type 0) → IsSymbol a
    → ((v : Verdict) (more : List prediction.Looked) → Later v more → AreLooks more) → (v : Verdict) (looked : List prediction.Looked)
    → Judges D k a Later v looked → AreLooks looked
judged_looks D a k Later symbol on _ _ (prediction.nothing_left e) = (symbol, refl)
judged_looks D a k Later symbol on _ _ (prediction.one_left i o) = (symbol, refl)
judged_looks D a k Later symbol on _ _ (prediction.gives_up n c l) = (symbol, refl)
judged_looks D a k Later symbol on v _ (prediction.goes_on _ more row e n m has later) = (symbol, on v more later)

sll_looks : (net : ParserNetwork) (C : Config → Type 0) (w : List ℕ) (k : ℕ) (v : Verdict) (looked : List prediction.Looked)
    → All IsSymbol w → SllFrom net C w k v looked → AreLooks looked
sll_looks net C [] k v looked symbols h = absurd h
sll_looks net C (a ∷ w) k v looked symbols h =
    judged_looks (Next net C a) a k (SllFrom net (Next net C a) w (suc k)) (symbols 0 0 (omega arith))
    (λ u more later. sll_looks net (Next net C a) w (suc k) u more (λ i d less. symbols (suc i) d (omega (arith, less))) later) v looked h

-- a symbol that was looked at is one
looks_symbol : (y : List Config) (a : ℕ) (x : List Config) (ls : List prediction.Looked) → AreLooks ls → LooksAt y a x ls → IsSymbol a
looks_symbol y a x [] looks at = absurd at
looks_symbol y a x (l ∷ ls) looks at = by (λ row. looks_symbol y a row ls) l.led looks.1 at
  where
    by : ((row : List Config) → AreLooks ls → LooksAt y a row ls → IsSymbol a) → (led : prediction.Led) → GoesOnBy led ls (AreLooks ls)
        → ((x ≡ y) × (l.symbol ≡ a)) ⊎ Onward led (λ row. LooksAt y a row ls) → IsSymbol a
    by on led more (inl here) = subst IsSymbol here.1 looks.0
    by on (led_to row) more (inr later) = on row more later
    by on (ended v) more (inr later) = absurd later

module _ (t : Tables) where
  -- the cells of what was looked at from the row x on
  abbrev cells : List Config → List prediction.Looked → List (Fact (List Config))
  cells x ls = cells_of x (map (stored_entry t) ls)

  -- the first of them, and those after it
  abbrev first_and : List Config → prediction.Looked → prediction.Led → List prediction.Looked → List (Fact (List Config))
  first_and x l led ls = Cell x (column_of t l.symbol) (stored_led led) ∷ next_facts (stored_led led) (λ y. cells y ls)

  -- ---- rows

  -- a content of a cell is the first row, or what one of the symbols led to
  in_cells : (y x : List Config) (f : Fact (List Config)) (ls : List prediction.Looked) → Among f (cells x ls) → IsIn y f
      → (x ≡ y) ⊎ ComesTo y ls
  in_cells y x f [] among is = absurd among
  in_cells y x f (l ∷ ls) among is = by (λ row more. in_cells y row f ls more is) l.led among
    where
      by : ((row : List Config) → Among f (cells row ls) → (row ≡ y) ⊎ ComesTo y ls) → (led : prediction.Led)
          → Among f (first_and x l led ls) → (x ≡ y) ⊎ (IsLedTo y led ⊎ ComesTo y ls)
      by on (led_to row) (inl same) = elim (subst (IsIn y) same is) [ inl h ↦ inl h | inr h ↦ inr (inl h) ]
      by on (led_to row) (inr more) = elim (on row more) [ inl h ↦ inr (inl h) | inr h ↦ inr (inr h) ]
      by on (ended v) (inl same) = inl (subst (IsIn y) same is)
      by on (ended v) (inr more) = absurd more

  -- what one of the symbols led to is what a cell leads to
  cell_to : (y x : List Config) (ls : List prediction.Looked) → AreLooks ls → ComesTo y ls
      → (f : Fact (List Config)) × Among f (cells x ls) × IsOf y f
  cell_to y x [] looks comes = absurd comes
  cell_to y x (l ∷ ls) looks comes = by (λ row. cell_to y row ls) l.led looks.1 comes
    where
      by : ((row : List Config) → AreLooks ls → ComesTo y ls → (f : Fact (List Config)) × Among f (cells row ls) × IsOf y f)
          → (led : prediction.Led) → GoesOnBy led ls (AreLooks ls) → IsLedTo y led ⊎ ComesTo y ls
          → (f : Fact (List Config)) × Among f (first_and x l led ls) × IsOf y f
      by on (led_to row) more (inl is) = (Cell x (column_of t l.symbol) (Row row 0), inl refl, is)
      by on (led_to row) more (inr later) = let found = on row more later in (found.0, inr found.1, found.2)
      by on (ended v) more (inl is) = absurd is
      by on (ended v) more (inr later) = absurd (subst (ComesTo y) more later)

  -- ---- edges

  -- a cell belongs to a symbol that was looked at
  looks_at : (y x : List Config) (s : ℕ) (to : Led (List Config)) (ls : List prediction.Looked) → AreLooks ls
      → Among (Cell y s to) (cells x ls) → (a : ℕ) × LooksAt y a x ls × (column_of t a ≡ s) × IsSymbol a
  looks_at y x s to [] looks among = absurd among
  looks_at y x s to (l ∷ ls) looks among = by (λ row. looks_at y row s to ls) l.led looks.1 among
    where
      first : (led : Led (List Config)) → Cell y s to ≡ Cell x (column_of t l.symbol) led → (x ≡ y) × (column_of t l.symbol ≡ s)
      first led same = let row : x ≡ y = cc in let column : column_of t l.symbol ≡ s = cc in (row, column)

      by : ((row : List Config) → AreLooks ls → Among (Cell y s to) (cells row ls)
          → (a : ℕ) × LooksAt y a row ls × (column_of t a ≡ s) × IsSymbol a)
          → (led : prediction.Led) → GoesOnBy led ls (AreLooks ls) → Among (Cell y s to) (first_and x l led ls)
          → (a : ℕ) × (((x ≡ y) × (l.symbol ≡ a)) ⊎ Onward led (λ row. LooksAt y a row ls)) × (column_of t a ≡ s) × IsSymbol a
      by on (led_to row) more (inl same) =
          let h = first (stored_led (led_to row)) same in (l.symbol, inl (h.0, refl), h.1, looks.0)
      by on (led_to row) more (inr later) = let found = on row more later in (found.0, inr found.1, found.2, found.3)
      by on (ended v) more (inl same) =
          let h = first (stored_led (ended v)) same in (l.symbol, inl (h.0, refl), h.1, looks.0)
      by on (ended v) more (inr later) = absurd later

  -- a symbol that was looked at has a cell
  cell_at : (y x : List Config) (a : ℕ) (ls : List prediction.Looked) → LooksAt y a x ls
      → (to : Led (List Config)) × Among (Cell y (column_of t a) to) (cells x ls)
  cell_at y x a [] at = absurd at
  cell_at y x a (l ∷ ls) at = by (λ row. cell_at y row a ls) l.led at
    where
      by : ((row : List Config) → LooksAt y a row ls → (to : Led (List Config)) × Among (Cell y (column_of t a) to) (cells row ls))
          → (led : prediction.Led) → ((x ≡ y) × (l.symbol ≡ a)) ⊎ Onward led (λ row. LooksAt y a row ls)
          → (to : Led (List Config)) × Among (Cell y (column_of t a) to) (first_and x l led ls)
      by on led (inl here) =
          let row : y ≡ x = sym here.0 in
          let column : column_of t a ≡ column_of t l.symbol = ap (column_of t) (sym here.1) in
          (stored_led led, inl (cc))
      by on (led_to row) (inr later) = let found = on row later in (found.0, inr found.1)
      by on (ended v) (inr later) = absurd later

module _ (t : Tables) (are : AreTables t) where
  -- ---- a word that is passed is one of a path, and back

  -- a lower number is a condition too
  lower : (d m n : ℕ) → IsCondition t.net d n → m ≤ n → IsCondition t.net d m
  lower d m n (any_level untested) less = any_level untested
  lower d m n (few_digits targets tested few small) less = few_digits targets tested few (omega (arith, small, less))

  -- the guard of a condition is one, too
  guard_under : (over : RunOver) (r : Run) (n guard : ℕ) → IsGuard t.net r.state n guard → IsConditionAt t.net over.values over.word r n
      → IsConditionAt t.net over.values over.word r guard
  guard_under over r n guard is under = record {
    is = lower r.state guard n under.is (is.least n (λ i. (λ h. h, λ h. h)));
    allows = λ i. (λ h. (under.allows i).0 ((is.same i).0 h), λ h. (is.same i).1 ((under.allows i).1 h));
  }

  -- the path over what the condition allows is that over what the moment allows
  over_moment : (over : RunOver) (r : Run) (n : ℕ) → IsConditionAt t.net over.values over.word r n → (w : List ℕ) (v : Verdict)
      (path : Path)
      → Sll t.net r.state (AllowedAt t.net r.state n) w v path → Sll t.net r.state (AllowsAt t.net over.values over.word r) w v path
  over_moment over r n under w v path =
      sll_over t.net r.state (AllowedAt t.net r.state n) (AllowsAt t.net over.values over.word r) (λ i u first. (under.allows i).0)
      (λ i u first. (under.allows i).1) w v path

  over_condition : (over : RunOver) (r : Run) (n : ℕ) → IsConditionAt t.net over.values over.word r n → (w : List ℕ) (v : Verdict)
      (path : Path) → Sll t.net r.state (AllowsAt t.net over.values over.word r) w v path → Sll t.net r.state
      (AllowedAt t.net r.state n) w v path
  over_condition over r n under w v path =
      sll_over t.net r.state (AllowsAt t.net over.values over.word r) (AllowedAt t.net r.state n) (λ i u first. (under.allows i).1)
      (λ i u first. (under.allows i).0) w v path

  -- The word is one of a path that is passed, from this start.
  record IsOnPath (runs : List RunOver) (f : Fact (List Config)) : Type 0 where
    path : Path
    passed : IsPassedPath t.net runs path
    start : ℕ
    among : Among f (facts_from t start path)

  on_path : (runs : List RunOver) (f : Fact (List Config)) → IsPassedBy t runs f → IsOnPath runs f
  on_path runs f (over, among, (r, reached, at)) =
      let p = at.passed in
      let start = p.is_start in
      record {
        path = p.path;
        passed = record {
          over = over;
          among = among;
          moment = r;
          reached = reached;
          is = record {
            decides = (are.starts.guards p.start r.state start.0 start.1).0;
            guarded = (start.0, are.starts.fits p.start r.state start.0 start.1, guard_under over r at.condition start.0 start.2 at.under);
            verdict = at.verdict;
            sll = over_moment over r at.condition at.under (drop r.place over.word) at.verdict p.path p.sll;
          };
        };
        start = p.start;
        among = subst (Among f) p.are at.among;
      }

  from_path : (runs : List RunOver) (path : Path) → IsPassedPath t.net runs path
      → (start : ℕ) × ((f : Fact (List Config)) → Among f (facts_from t start path) → IsPassedBy t runs f)
  from_path runs path passed =
      let r = passed.moment in
      let over = passed.over in
      let at = passed.is in
      let under = at.guarded.2 in
      let there = are.starts.there r.state at.guarded.0 at.decides under.is at.guarded.1 in (
        there.0,
        λ f among. (
          over,
          passed.among,
          (
            r,
            passed.reached,
            record {
              condition = at.guarded.0;
              under = under;
              verdict = at.verdict;
              facts = facts_from t there.0 path;
              passed = record {
                path = path;
                sll = over_condition over r at.guarded.0 under (drop r.place over.word) at.verdict path at.sll;
                start = there.0;
                is_start = (there.1, there.2, there.3);
                are = refl;
              };
              among = among;
            },
          ),
        ),
      )

  module _ (runs : List RunOver) (symbols : HaveSymbols runs) where
    abbrev Passed : Fact (List Config) → Type 0
    Passed = IsPassedBy t runs

    path_looks : (path : Path) → IsPassedPath t.net runs path → AreLooks path.looked
    path_looks path passed =
        let r = passed.moment in
        let over = passed.over in
        sll_looks t.net (Start t.net r.state (AllowsAt t.net over.values over.word r) wildcard) (drop r.place over.word) 0
        passed.is.verdict path.looked
        (All-drop IsSymbol r.place over.word
        (All-contains (λ (o : RunOver). All IsSymbol o.word) runs over symbols passed.among)) passed.is.sll.1

    -- ---- rows

    -- the contents of a word that is passed are rows that are passed
    pub row_in : (y : List Config) (f : Fact (List Config)) → Passed f → IsIn y f → IsPassedRow t.net runs y
    row_in y f passed is = let on = on_path runs f passed in (on.path, on.passed, by on on.among)
      where
        by : (on : IsOnPath runs f) → Among f (facts_from t on.start on.path) → (on.path.start ≡ y) ⊎ ComesTo y on.path.looked
        by on (inl same) = inl (subst (IsIn y) same is)
        by on (inr among) = in_cells t y on.path.start f on.path.looked among is

    of_is_in : (y : List Config) (f : Fact (List Config)) → IsOf y f → IsIn y f
    of_is_in y (fact.Start i z) of = of
    of_is_in y (Cell x s (Row z mark)) of = inr of
    of_is_in y (Cell x s (End code)) of = absurd of

    row_of : (y : List Config) → IsPassedRow t.net runs y → IsRowOf Passed y
    row_of y (path, passed, at) =
        let from = from_path runs path passed in
        elim at [
          | inl is ↦ (fact.Start from.0 path.start, from.1 (fact.Start from.0 path.start) (inl refl), is)
          | inr comes ↦
              let found = cell_to t y path.start path.looked (path_looks path passed) comes in
              (found.0, from.1 found.0 (inr found.1), found.2)
        ]

    -- the rows to which words that are passed lead are those that are passed
    pub rows_are : (y : List Config) → IsRowOf Passed y ↔ IsPassedRow t.net runs y
    rows_are y = (λ row. row_in y row.0 row.1 (of_is_in y row.0 row.2), row_of y)

    -- ---- edges

    -- the edge is one of the cell: of its row, and of a symbol of its column
    abbrev IsOfCell : List Config × ℕ → List Config × ℕ → Type 0
    IsOfCell cell edge = IsPassedEdge t.net runs edge × (edge.0 ≡ cell.0) × (column_of t edge.1 ≡ cell.1) × IsSymbol edge.1

    -- a cell that is passed has such an edge
    edge_of : (cell : List Config × ℕ) → IsEdgeOf Passed cell → (edge : List Config × ℕ) × IsOfCell cell edge
    edge_of (x, s) (to, passed) = let on = on_path runs (Cell x s to) passed in by on on.among
      where
        by : (on : IsOnPath runs (Cell x s to)) → Among (Cell x s to) (facts_from t on.start on.path)
            → (edge : List Config × ℕ) × IsOfCell (x, s) edge
        by on (inl same) = absurd (cc)
        by on (inr among) =
            let found = looks_at t x on.path.start s to on.path.looked (path_looks on.path on.passed) among in
            ((x, found.0), ((on.path, on.passed, found.1), refl, found.2, found.3))

    -- an edge that is passed is of a symbol, and its cell is passed
    cell_of : (x : List Config) (a : ℕ) → IsPassedEdge t.net runs (x, a) → IsEdgeOf Passed (x, column_of t a) × IsSymbol a
    cell_of x a (path, passed, at) =
        let from = from_path runs path passed in
        let found = cell_at t x path.start a path.looked at in (
          (found.0, from.1 (Cell x (column_of t a) found.0) (inr found.1)),
          looks_symbol x a path.start path.looked (path_looks path passed) at,
        )

    -- there are as many edges, where those count as one whose symbols are alike, as cells
    pub edges_are : (size : ℕ) → HasSize (IsEdgeOf Passed) size → HasClasses (IsPassedEdge t.net runs) (AreOneEdge t.net) size
    edges_are size of = record {
      items = picks.0;
      only = λ edge among. (pick_from IsOfCell of.items picks.0 edge picks.1 among).2.0;
      each = each;
      once = once;
      count = picks_length IsOfCell of.items picks.0 picks.1 ∙ of.count;
    }
      where
        picks : (edges : List (List Config × ℕ)) × ArePicks IsOfCell of.items edges
        picks = pick IsOfCell of.items (λ cell among. edge_of cell ((of.all cell).1 among))

        each : (edge : List Config × ℕ) → IsPassedEdge t.net runs edge
            → (other : List Config × ℕ) × Among other picks.0 × AreOneEdge t.net edge other
        each (x, a) passed =
            let cell = cell_of x a passed in
            let found = pick_to IsOfCell of.items picks.0 (x, column_of t a) picks.1 ((of.all (x, column_of t a)).0 cell.0) in
            let is = found.2 in
            let alike = (are.columns.same a found.0.1 cell.1 is.3).0 (sym is.2) in
            (found.0, found.1, (sym is.1, alike))

        once : (i j : ℕ) (one other : List Config × ℕ) → get_elem? picks.0 i ≡ some one → get_elem? picks.0 j ≡ some other
            → AreOneEdge t.net one other → i ≡ j
        once i j one other here there same =
            let p = pick_at IsOfCell of.items picks.0 i one picks.1 here in
            let q = pick_at IsOfCell of.items picks.0 j other picks.1 there in
            let column = (are.columns.same one.1 other.1 p.2.3 q.2.3).1 same.1 in
            let rows : p.0.0 ≡ q.0.0 = sym p.2.1 ∙ (same.0 ∙ q.2.1) in
            let columns : p.0.1 ≡ q.0.1 = sym p.2.2 ∙ (column ∙ q.2.2) in
            let cell : p.0 ≡ q.0 = λ i. (rows i, columns i) in
            of.once i j p.0 p.1 (q.1 ∙ ap some (sym cell))
