-- The views, the rule and what each step tells.
use Rattle.std.specs.Prelude.{◌≡◌, ◌≢◌, ◌⊎◌, ◌↔◌, ℕ, suc, ◌+◌, ◌-◌, ◌<◌, ◌≤◌, List, [], ◌∷◌, ◌++◌, length, true, false, if◌then◌else◌}
use mathlib.Core.Option.{some}
use lib.ListN.{get_elem?}
use Rattle.atomic_table.specs.Table.{State, Me, Step}
use Rattle.atomic_table.specs.Seated.{TableId}
use Rattle.g4_store.specs.declared.automaton.Led.{Led}
use Rattle.g4_store.specs.declared.automaton.Led.TheVariants.{Row, End}
use Rattle.g4_store.specs.declared.automaton.Fact.{Fact}
use Rattle.g4_store.specs.declared.automaton.Fact.TheVariants.{Start, Cell}
use Rattle.g4_store.specs.declared.automaton.Plan.{Plan}
use Rattle.g4_store.specs.declared.view.Looks.{Looks}
use Rattle.g4_store.specs.declared.view.View.{View}
use Rattle.g4_store.specs.Known.{AreRows}
use Rattle.g4_store.specs.Numbers.{Among, has, union}
use Rattle.g4_store.specs.Words.{cell_at, start_at, row_word, end_word, Names, IsOf, Stands, Follows, Shows}

-- the name of no table
abbrev pub no_table : TableId
no_table = record { words = 0; slots = 0; views_name = 0; atom = 0; block = 0; offset = 0; slot_names = [] }

-- nothing was loaded
abbrev pub no_looks : Looks
no_looks = record { count = 0; word = 0; found = 0 }

-- one load more: of this word, which held this
abbrev pub one_more : ℕ → ℕ → Looks → Looks
one_more word found looks = record { count = looks.count + 1; word = word; found = found }

module _ {C : Type 0} where
  -- a pass. Where it holds 0, count is how many numbers were given
  abbrev pub pass_view : List (Fact C) → List (Fact C) → List (ℕ × C) → List ℕ → ℕ → Looks → View C
  pass_view seen taught known holds count looks =
      record {
        is_book = false;
        spent = false;
        rows = [];
        loose = [];
        facts = [];
        seen = seen;
        taught = taught;
        known = known;
        holds = holds;
        count = count;
        looks = looks;
      }

  -- the book: its rows, the one that no word names yet, the facts that stand, and what its guest has
  abbrev pub book_view : List C → List C → List (Fact C) → List (Fact C) → List (Fact C) → List (ℕ × C) → List ℕ → ℕ → Looks → View C
  book_view rows loose facts seen taught known holds count looks =
      record {
        is_book = true;
        spent = false;
        rows = rows;
        loose = loose;
        facts = facts;
        seen = seen;
        taught = taught;
        known = known;
        holds = holds;
        count = count;
        looks = looks;
      }

  abbrev pub IsPassView : View C → Type 0
  IsPassView v = v ≡ pass_view v.seen v.taught v.known v.holds v.count v.looks

  abbrev pub IsBookOf : List C → View C → Type 0
  IsBookOf rows v = v ≡ book_view rows v.loose v.facts v.seen v.taught v.known v.holds v.count v.looks

  -- a book without a guest, each of whose rows is named
  abbrev pub IsIdle : View C → Type 0
  IsIdle v = v ≡ book_view v.rows [] v.facts [] [] [] [] 0 no_looks

  -- at the start the book has the first pass for its guest
  abbrev pub opening_view : View C
  opening_view = book_view [] [] [] [] [] [] (0 ∷ []) 1 no_looks

  abbrev pub gone : View C
  gone = record {
    is_book = false;
    spent = true;
    rows = [];
    loose = [];
    facts = [];
    seen = [];
    taught = [];
    known = [];
    holds = [];
    count = 0;
    looks = no_looks;
  }

  -- the count goes with 0
  abbrev pub count_of : View C → View C → ℕ
  count_of v w = if has 0 v.holds then v.count else w.count

  abbrev pub hosting : View C → View C → View C
  hosting b v =
      book_view b.rows b.loose b.facts (b.seen ++ v.seen) (b.taught ++ v.taught) (b.known ++ v.known) (union b.holds v.holds)
      (count_of b v) v.looks

  abbrev pub without_guest : View C → View C
  without_guest b = book_view b.rows b.loose b.facts [] [] [] [] 0 no_looks

  -- what the view says as a pass
  abbrev pub guest_of : View C → View C
  guest_of b = pass_view b.seen b.taught b.known b.holds b.count b.looks

  -- rows with their numbers, from n on
  abbrev pub numbered : ℕ → List C → List (ℕ × C)
  numbered n [] = []
  numbered n (x ∷ xs) = (n, x) ∷ numbered (suc n) xs

  -- the same, once the guest has been told all rows
  abbrev pub told_guest : View C → View C
  told_guest b = pass_view b.seen b.taught (numbered 0 b.rows ++ b.known) b.holds b.count b.looks

  -- a leading pass that has given off one more number, and the pass that has it, which has taught nothing
  abbrev pub leading : View C → View C
  leading v = pass_view v.seen v.taught v.known v.holds (v.count + 1) v.looks

  abbrev pub copied : View C → View C
  copied v = pass_view v.seen [] v.known (v.count ∷ []) 0 no_looks

  -- what two passes have together; the loads stay those of the first
  abbrev pub met : View C → View C → View C
  met v w = pass_view (v.seen ++ w.seen) (v.taught ++ w.taught) (v.known ++ w.known) (union v.holds w.holds) (count_of v w) v.looks

  -- the view that has also seen this, and been told these rows
  abbrev pub saw : Fact C → List (ℕ × C) → View C → View C
  saw f told v = record v { seen = f ∷ v.seen; known = told ++ v.known }

  -- the view that has also loaded this word
  abbrev pub looked : ℕ → ℕ → View C → View C
  looked word found v = record v { looks = one_more word found v.looks }

  -- the book after it made a row
  abbrev pub grown : C → View C → View C
  grown x v = record v { rows = v.rows ++ x ∷ []; loose = x ∷ [] }

  -- the book after it filled a word
  abbrev pub filled : Fact C → List (ℕ × C) → View C → View C
  filled f told v = record v { loose = []; facts = f ∷ v.facts; seen = f ∷ v.seen; taught = f ∷ v.taught; known = told ++ v.known }

  -- it holds each number that was given
  abbrev pub IsWhole : View C → Type 0
  IsWhole v = (has 0 v.holds ≡ true) × ((n : ℕ) → n < v.count → has n v.holds ≡ true)

  -- what a filled word of a cell tells, and which rows
  abbrev pub Tells : ℕ → Led C → List (ℕ × C) → Type 0
  Tells w (Row y mark) told = (t : ℕ) × (t < 65536) × (w ≡ row_word t mark) × (told ≡ (t, y) ∷ [])
  Tells w (End code) told = (w ≡ end_word code) × (told ≡ [])

  -- the row of this number, where it is known, has this content
  abbrev pub Agrees : List (ℕ × C) → ℕ → C → Type 0
  Agrees known t y = (z : C) → Among (t, z) known → y ≡ z

  -- none of the facts is of this start
  abbrev pub NoStart : ℕ → List (Fact C) → Type 0
  NoStart i facts = (y : C) → Among (Start i y) facts → ⊥

  -- none of the facts is of the cell of this content and column
  abbrev pub NoCell : C → ℕ → List (Fact C) → Type 0
  NoCell x s facts = (led : Led C) → Among (Cell x s led) facts → ⊥

module _ {N C : Type 0} where
  -- a filled word names the row
  pub record IsNamed (p : Plan N) (words : List ℕ) (rows : List C) (y : C) : Type 0 where
    pub by : Fact C
    pub stands : Stands p words rows by
    pub of : IsOf y by

  -- what the rule says of one view
  pub record Knows (p : Plan N) (words : List ℕ) (rows : List C) (desk count : ℕ) (holder : ℕ → ℕ) (by : ℕ) (v : View C) : Type 0 where
    pub knows : (t : ℕ) (y : C) → Among (t, y) v.known → get_elem? rows t ≡ some y
    pub sees : (f : Fact C) → Among f v.seen → Stands p words rows f
    pub taught_seen : (f : Fact C) → Among f v.taught → Among f v.seen
    pub book : v.is_book ≡ true → (by ≡ desk) × (v.rows ≡ rows)
    pub fills : v.is_book ≡ true → (f : Fact C) → Among f v.facts ↔ Stands p words rows f
    pub named : v.is_book ≡ true → (t : ℕ) (y : C) → get_elem? rows t ≡ some y → Among y v.loose ⊎ IsNamed p words rows y
    pub idle : v.is_book ≡ true → v.holds ≡ [] → v.loose ≡ []
    pub numbers : (n : ℕ) → has n v.holds ≡ true → (n < count) × (holder n ≡ by)
    pub first : has 0 v.holds ≡ true → v.count ≡ count

-- a view that holds a number has taught the fact
pub record IsKept {C : Type 0} (views : List (View C)) (f : Fact C) : Type 0 where
  pub number : ℕ
  pub seat : ℕ
  pub view : View C
  pub there : get_elem? views seat ≡ some view
  pub live : view.spent ≡ false
  pub holds : has number view.holds ≡ true
  pub teaches : Among f view.taught

module _ {N C : Type 0} (starts : N → ℕ → C → Type 0) (leads : N → C → ℕ → Led C → Type 0) where
  pub record Kept (p : Plan N) (words : List ℕ) (views : List (View C)) : Type 0 where
    pub rows : List C
    pub desk : ℕ
    pub count : ℕ
    pub holder : ℕ → ℕ
    pub shows : Shows starts leads p words rows
    pub each : (by : ℕ) (v : View C) → get_elem? views by ≡ some v → v.spent ≡ false → Knows p words rows desk count holder by v
    pub keeper : (f : Fact C) → Stands p words rows f → IsKept views f

module _ {S N C : Type 0} (starts : N → ℕ → C → Type 0) (leads : N → C → ℕ → Led C → Type 0) where
  abbrev pub Rule : Plan N → State S (View C) → Type 0
  Rule p s = Kept starts leads p s.words s.views

  -- a load of a start
  abbrev pub ProbedStart : Plan N → Step S → Me S (View C) → ℕ → Me S (View C) → Type 0
  ProbedStart p st me found me' =
      (me'.1 ≡ me.1)
      × ((i : ℕ) → i < p.starts → st.word ≡ start_at p i
      → (found ≡ 0 → (me'.0 ≡ looked (start_at p i) found me.0) × NoStart i me.0.seen)
      × (found ≢ 0 → (found ≤ p.rows) × ((y : C) × starts p.net i y
      × (me'.0 ≡ looked (start_at p i) found (saw (Start i y) ((found - 1, y) ∷ []) me.0)) × Agrees me.0.known (found - 1) y)))

  -- a load of the cell of a row that is known
  abbrev pub ProbedCell : Plan N → Step S → Me S (View C) → ℕ → Me S (View C) → Type 0
  ProbedCell p st me found me' =
      (me'.1 ≡ me.1)
      × ((r s : ℕ) (x : C) → Among (r, x) me.0.known → s < p.columns → st.word ≡ cell_at p r s
      → (found ≡ 0 → (me'.0 ≡ looked (cell_at p r s) found me.0) × NoCell x s me.0.seen)
      × (found ≢ 0 → (led : Led C) × (told : List (ℕ × C)) × leads p.net x s led × Tells found led told
      × ((t : ℕ) (y : C) → Among (t, y) told → (t < p.rows) × Agrees me.0.known t y)
      × (me'.0 ≡ looked (cell_at p r s) found (saw (Cell x s led) told me.0))))

  -- a load of a start by the book
  abbrev pub RereadStart : Plan N → Step S → Me S (View C) → ℕ → Me S (View C) → Type 0
  RereadStart p st me found me' =
      (me'.1 ≡ me.1)
      × ((i : ℕ) → i < p.starts → st.word ≡ start_at p i
      → (found ≡ 0 → (me'.0 ≡ me.0) × NoStart i me.0.facts)
      × (found ≢ 0 → (y : C) × starts p.net i y × (get_elem? me.0.rows (found - 1) ≡ some y) × Among (Start i y) me.0.facts
      × (me'.0 ≡ saw (Start i y) ((found - 1, y) ∷ []) me.0)))

  -- a load of a cell by the book
  abbrev pub RereadCell : Plan N → Step S → Me S (View C) → ℕ → Me S (View C) → Type 0
  RereadCell p st me found me' =
      (me'.1 ≡ me.1)
      × ((r s : ℕ) (x : C) → get_elem? me.0.rows r ≡ some x → s < p.columns → st.word ≡ cell_at p r s
      → (found ≡ 0 → (me'.0 ≡ me.0) × NoCell x s me.0.facts)
      × (found ≢ 0 → (led : Led C) × (told : List (ℕ × C)) × leads p.net x s led × Tells found led told × Among (Cell x s led) me.0.facts
      × ((t : ℕ) (y : C) → Among (t, y) told → get_elem? me.0.rows t ≡ some y) × (me'.0 ≡ saw (Cell x s led) told me.0)))

  -- the book stores the parent word of a new row
  abbrev pub Grown : Plan N → Step S → Me S (View C) → ℕ → Me S (View C) → Type 0
  Grown p st me found me' = (me'.1 ≡ me.1) × ((x : C) → Follows starts leads p me.0.rows st.word x st.first → me'.0 ≡ grown x me.0)

  -- the book stores a start, which was empty
  abbrev pub FilledStart : Plan N → Step S → Me S (View C) → ℕ → Me S (View C) → Type 0
  FilledStart p st me found me' =
      (me'.1 ≡ me.1)
      × ((i t : ℕ) (y : C) → i < p.starts → st.word ≡ start_at p i → st.first ≡ t + 1 → get_elem? me.0.rows t ≡ some y
      → NoStart i me.0.facts × (me'.0 ≡ filled (Start i y) ((t, y) ∷ []) me.0))

  -- the book stores a cell, which was empty
  abbrev pub FilledCell : Plan N → Step S → Me S (View C) → ℕ → Me S (View C) → Type 0
  FilledCell p st me found me' =
      (me'.1 ≡ me.1)
      × ((r s : ℕ) (x : C) (led : Led C) (told : List (ℕ × C)) → get_elem? me.0.rows r ≡ some x → s < p.columns → st.word ≡ cell_at p r s
      → Names me.0.rows led st.first → Tells st.first led told → NoCell x s me.0.facts × (me'.0 ≡ filled (Cell x s led) told me.0))

  -- a load by the book, which tells that its rows differ and how many there may be, that what the guest knows are rows, and that what
  -- it has seen stands
  abbrev pub Checked : Plan N → Step S → Me S (View C) → ℕ → Me S (View C) → Type 0
  Checked p st me found me' =
      (me'.1 ≡ me.1)
      × (me'.0 ≡ me.0)
      × ((t : ℕ) (y : C) → Among (t, y) me.0.known → get_elem? me.0.rows t ≡ some y)
      × ((r q : ℕ) (x : C) → get_elem? me.0.rows r ≡ some x → get_elem? me.0.rows q ≡ some x → r ≡ q)
      × ((f : Fact C) → Among f me.0.seen → Among f me.0.facts)
      × (length me.0.rows ≤ p.rows)

  -- a load by a pass, which tells that what it knows are rows
  abbrev pub Reviewed : Plan N → Step S → Me S (View C) → ℕ → Me S (View C) → Type 0
  Reviewed p st me found me' = (me'.1 ≡ me.1) × (me'.0 ≡ me.0) × AreRows p.rows me.0.known
