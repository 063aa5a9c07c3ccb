-- What the book was told by a load, and that its view stays that of the bench.
use Rattle.std.proofs.Common.{◌≡◌, ◌≢◌, ℕ, ◌-◌, List, [], ◌∷◌, ◌++◌, Bool, true, false, sym, ap, ◌∙◌, subst}
use native.Mathlib.Decide.{ℕ_discrete}
use mathlib.Core.Logic.{dite}
use mathlib.Core.Option.{some}
use lib.ListN.{get_elem?}
use Rattle.g4_store.specs.declared.automaton.Led.{Led}
use Rattle.g4_store.specs.declared.automaton.Led.TheVariants.{Row, End}
use Rattle.g4_store.specs.declared.automaton.Fact.{Fact}
use Rattle.g4_store.specs.declared.automaton.Fact.TheVariants.{Start, Cell}
use Rattle.g4_store.specs.declared.automaton.Plan.{Plan}
use Rattle.g4_store.specs.declared.view.View.{View}
use Rattle.g4_store.specs.Numbers.{Among}
use Rattle.g4_store.specs.Views.{book_view, IsBookOf, saw, Tells, NoStart, NoCell, grown, filled}
use Rattle.g4_store.specs.Found.{IsFilledAt, StartReread, Told, CellReread}

module _ {C : Type 0} where
  -- the view is that of a bench with these rows
  saw_bench : (rows : List C) (v w : View C) (f : Fact C) (told : List (ℕ × C)) → w ≡ saw f told v → IsBookOf rows v → IsBookOf rows w
  saw_bench rows v w f told e k = subst (λ (u : View C). IsBookOf rows u) (sym e) (ap (λ (u : View C). saw f told u) k)

  same_bench : (rows : List C) (v w : View C) → w ≡ v → IsBookOf rows v → IsBookOf rows w
  same_bench rows v w e k = subst (λ (u : View C). IsBookOf rows u) (sym e) k

  told_of : (n : ℕ) (led : Led C) (told : List (ℕ × C)) → Tells n led told → Told led told
  told_of n (Row y mark) told t = (t.0, t.3)
  told_of n (End code) told t = t.1

  pub grown_bench : (rows rows' : List C) (v w : View C) (y : C) → w ≡ grown y v → IsBookOf rows v → rows' ≡ rows ++ y ∷ []
      → IsBookOf rows' w
  grown_bench rows rows' v w y e k longer =
      subst (λ (u : View C). IsBookOf rows' u) (sym e)
      (ap (λ (u : View C). grown y u) k ∙ ap (λ (l : List C).
      book_view l (y ∷ []) v.facts v.seen v.taught v.known v.holds v.count v.looks) (sym longer))

  pub filled_bench : (rows : List C) (v w : View C) (f : Fact C) (told : List (ℕ × C)) → w ≡ filled f told v → IsBookOf rows v
      → IsBookOf rows w
  filled_bench rows v w f told e k = subst (λ (u : View C). IsBookOf rows u) (sym e) (ap (λ (u : View C). filled f told u) k)

module _ {N C : Type 0} (starts : N → ℕ → C → Type 0) (leads : N → C → ℕ → Led C → Type 0) where
  -- what the book is told by the load of a start
  abbrev StartTold : Plan N → ℕ → ℕ → View C → View C → Type 0
  StartTold p i n v w =
      (n ≡ 0 → (w ≡ v) × NoStart i v.facts)
      × (n ≢ 0 → (y : C) × starts p.net i y × (get_elem? v.rows (n - 1) ≡ some y) × Among (Start i y) v.facts
      × (w ≡ saw (Start i y) ((n - 1, y) ∷ []) v))

  pub start_bench : (p : Plan N) (i n : ℕ) (rows : List C) (v w : View C) → StartTold p i n v w → IsBookOf rows v → IsBookOf rows w
  start_bench p i n rows v w t k = dite (ℕ_discrete n 0)
      (λ (z : n ≡ 0). same_bench rows v w (t.0 z).0 k)
      (λ (z : n ≢ 0). let a = t.1 z in saw_bench rows v w (Start i a.0) ((n - 1, a.0) ∷ []) a.4 k)

  pub start_reread : (p : Plan N) (i n : ℕ) (v w : View C) (r : Bool) → IsFilledAt n r → StartTold p i n v w
      → StartReread starts leads p i v w r
  start_reread p i n v w true d t = let a = t.1 d in (n - 1, a.0, a.1, a.2, a.3, a.4)
  start_reread p i n v w false d t = t.0 d

  -- what the book is told by the load of a cell
  abbrev CellTold : Plan N → C → ℕ → ℕ → View C → View C → Type 0
  CellTold p x s n v w =
      (n ≡ 0 → (w ≡ v) × NoCell x s v.facts)
      × (n ≢ 0 → (led : Led C) × (told : List (ℕ × C)) × leads p.net x s led × Tells n led told × Among (Cell x s led) v.facts
      × ((t : ℕ) (y : C) → Among (t, y) told → get_elem? v.rows t ≡ some y) × (w ≡ saw (Cell x s led) told v))

  pub cell_bench : (p : Plan N) (x : C) (s n : ℕ) (rows : List C) (v w : View C) → CellTold p x s n v w → IsBookOf rows v → IsBookOf rows w
  cell_bench p x s n rows v w t k = dite (ℕ_discrete n 0)
      (λ (z : n ≡ 0). same_bench rows v w (t.0 z).0 k)
      (λ (z : n ≢ 0). let a = t.1 z in saw_bench rows v w (Cell x s a.0) a.1 a.6 k)

  pub cell_reread : (p : Plan N) (x : C) (s n : ℕ) (v w : View C) (r : Bool) → IsFilledAt n r → CellTold p x s n v w
      → CellReread starts leads p x s v w r
  cell_reread p x s n v w true d t = let a = t.1 d in (a.0, a.1, a.2, told_of n a.0 a.1 a.3, a.4, a.5, a.6)
  cell_reread p x s n v w false d t = t.0 d
