-- What a pass was told by a load, and that it stays a pass.
use Rattle.std.proofs.Common.{◌≡◌, ◌≢◌, ℕ, ◌+◌, ◌-◌, ◌<◌, ◌≤◌, List, [], ◌∷◌, ◌++◌, Bool, Option, Some, None, refl, sym, ap, ◌∙◌, subst, inl, inr, arith}
use native.Mathlib.Decide.{ℕ_discrete}
use mathlib.Core.Logic.{dite}
use Rattle.g4_store.specs.declared.automaton.Led.{Led}
use Rattle.g4_store.specs.declared.automaton.Led.TheVariants.{Row, End}
use Rattle.g4_store.specs.declared.automaton.Fact.{Fact}
use Rattle.g4_store.specs.declared.automaton.Fact.TheVariants.{Start, Cell}
use Rattle.g4_store.specs.declared.automaton.Plan.{Plan}
use Rattle.g4_store.specs.declared.board.Found.{Found}
use Rattle.g4_store.specs.declared.board.Found.TheVariants as found
use Rattle.g4_store.specs.declared.view.View.{View}
use Rattle.g4_store.specs.Numbers.{Among}
use Rattle.g4_store.specs.Words.{cell_at, start_at, row_word, end_word}
use Rattle.g4_store.specs.Views.{Agrees, IsPassView, saw, looked, NoStart, NoCell, Tells}
use Rattle.g4_store.specs.Known.{AreRows, KnowsRows}
use Rattle.g4_store.specs.Found.{Decodes, DecodesStart, StartFound, CellFound}
use Rattle.g4_store.proofs.Known.{all_more}
use Rattle.g4_store.proofs.Lists.{at_append, among_right}
use Rattle.g4_store.proofs.Placing.{row_one}

module _ {C : Type 0} where
  saw_pass : (v w : View C) (i n : ℕ) (f : Fact C) (told : List (ℕ × C)) → w ≡ looked i n (saw f told v) → IsPassView v → IsPassView w
  saw_pass v w i n f told e k = subst (λ (u : View C). IsPassView u) (sym e) (ap (λ (u : View C). looked i n (saw f told u)) k)

  looked_pass : (v w : View C) (i n : ℕ) → w ≡ looked i n v → IsPassView v → IsPassView w
  looked_pass v w i n e k = subst (λ (u : View C). IsPassView u) (sym e) (ap (λ (u : View C). looked i n u) k)

module _ {N C : Type 0} (starts : N → ℕ → C → Type 0) (leads : N → C → ℕ → Led C → Type 0) where
  -- what the load of a start tells
  abbrev StartTold : Plan N → ℕ → ℕ → View C → View C → Type 0
  StartTold p i n v w =
      (n ≡ 0 → (w ≡ looked (start_at p i) n v) × NoStart i v.seen)
      × (n ≢ 0 → (n ≤ p.rows) × ((y : C) × starts p.net i y × (w ≡ looked (start_at p i) n (saw (Start i y) ((n - 1, y) ∷ []) v))
      × Agrees v.known (n - 1) y))

  pub start_pass : (p : Plan N) (i n : ℕ) (v w : View C) → StartTold p i n v w → IsPassView v → IsPassView w × (w.holds ≡ v.holds)
  start_pass p i n v w t k = dite (ℕ_discrete n 0)
      (λ (z : n ≡ 0). let a = (t.0 z).0 in (looked_pass v w (start_at p i) n a k, ap (λ (u : View C). u.holds) a))
      (λ (z : n ≢ 0). let a = (t.1 z).1 in (
        saw_pass v w (start_at p i) n (Start i a.0) ((n - 1, a.0) ∷ []) a.2 k,
        ap (λ (u : View C). u.holds) a.2,
      ))

  pub start_found : (p : Plan N) (i n : ℕ) (v w : View C) (r : Option ℕ) → DecodesStart n r → StartTold p i n v w
      → StartFound starts leads p i v w r
  start_found p i n v w None d t = ((t.0 d).0 ∙ ap (λ (k : ℕ). looked (start_at p i) k v) d, (t.0 d).1)
  start_found p i n v w (Some t) d told =
      let f = told.1 (λ z. omega arith) in
      let row : n - 1 ≡ t = omega arith in
      let is : n ≡ t + 1 = d in (
        (let a = f.0 in omega arith),
        (
          f.1.0,
          f.1.1,
          f.1.2
              ∙ (λ j. looked (start_at p i) (is j) (saw (Start i f.1.0) ((row j, f.1.0) ∷ []) v)),
        ),
      )

  -- what the load of a cell tells
  abbrev CellTold : Plan N → ℕ → C → ℕ → ℕ → View C → View C → Type 0
  CellTold p r x s n v w =
      (n ≡ 0 → (w ≡ looked (cell_at p r s) n v) × NoCell x s v.seen)
      × (n ≢ 0 → (led : Led C) × (told : List (ℕ × C)) × leads p.net x s led × Tells n led told
      × ((t : ℕ) (y : C) → Among (t, y) told → (t < p.rows) × Agrees v.known t y)
      × (w ≡ looked (cell_at p r s) n (saw (Cell x s led) told v)))

  pub cell_pass : (p : Plan N) (r : ℕ) (x : C) (s n : ℕ) (v w : View C) → CellTold p r x s n v w → IsPassView v
      → IsPassView w × (w.holds ≡ v.holds)
  cell_pass p r x s n v w t k = dite (ℕ_discrete n 0)
      (λ (z : n ≡ 0). let a = (t.0 z).0 in (looked_pass v w (cell_at p r s) n a k, ap (λ (u : View C). u.holds) a))
      (λ (z : n ≢ 0). let a = t.1 z in (saw_pass v w (cell_at p r s) n (Cell x s a.0) a.1 a.5 k, ap (λ (u : View C). u.holds) a.5))

  tells_row : (p : Plan N) (r : ℕ) (x : C) (s n t mark : ℕ) (v w : View C) → n ≡ row_word t mark → t < 65536
      → (led : Led C) (told : List (ℕ × C)) → leads p.net x s led → Tells n led told
      → ((u : ℕ) (y : C) → Among (u, y) told → (u < p.rows) × Agrees v.known u y) → w ≡ looked (cell_at p r s) n (saw (Cell x s led) told v)
      → CellFound starts leads p r x s v w (found.Row t mark)
  tells_row p r x s n t mark v w is lt (Row y m) told l (u, lu, uw, ut) within e =
      let one = row_one t mark u m lt lu (sym is ∙ uw) in (
        subst (λ (k : ℕ). k < p.rows) (sym one.0) (within u y (subst (λ (q : List (ℕ × C)). Among (u, y) q) (sym ut) (inl refl))).0,
        (
          y,
          subst (λ (k : ℕ). leads p.net x s (Row y k)) (sym one.1) l,
          e
              ∙ (λ i. looked (cell_at p r s) (is i) (saw (Cell x s (Row y (sym one.1 i)))
              ((ut ∙ ap (λ (k : ℕ). (k, y) ∷ []) (sym one.0)) i) v)),
        ),
      )
  tells_row p r x s n t mark v w is lt (End code) told l (f, ut) within e = absurd (omega arith)

  tells_end : (p : Plan N) (r : ℕ) (x : C) (s n code : ℕ) (v w : View C) → n ≡ end_word code → (led : Led C) (told : List (ℕ × C))
      → leads p.net x s led → Tells n led told
      → w ≡ looked (cell_at p r s) n (saw (Cell x s led) told v) → CellFound starts leads p r x s v w (found.End code)
  tells_end p r x s n code v w is (Row y m) told l (u, lu, uw, ut) e = absurd (omega arith)
  tells_end p r x s n code v w is (End d) told l (f, ut) e =
      let same : d ≡ code = omega arith in
      (subst (λ (k : ℕ). leads p.net x s (End k)) same l, e ∙ (λ i. looked (cell_at p r s) (is i) (saw (Cell x s (End (same i))) (ut i) v)))

  pub cell_found : (p : Plan N) (row : ℕ) (x : C) (s n : ℕ) (v w : View C) (r : Found) → Decodes n r → CellTold p row x s n v w
      → CellFound starts leads p row x s v w r
  cell_found p row x s n v w found.Nothing d t = ((t.0 d).0 ∙ ap (λ (k : ℕ). looked (cell_at p row s) k v) d, (t.0 d).1)
  cell_found p row x s n v w (found.Row t mark) d told = let f = told.1 (λ z. let a = d.0 in omega arith) in
      tells_row p row x s n t mark v w d.0 d.1 f.0 f.1 f.2 f.3 f.4 f.5
  cell_found p row x s n v w (found.End code) d told = let f = told.1 (λ z. omega arith) in
      tells_end p row x s n code v w d f.0 f.1 f.2 f.3 f.5

module _ {C : Type 0} where
  -- more rows are known, which agree with those before
  rows_more : (most : ℕ) (told known : List (ℕ × C)) → AreRows most known
      → ((t : ℕ) (y : C) → Among (t, y) told → (t < most) × Agrees known t y)
      → ((t : ℕ) (y z : C) → Among (t, y) told → Among (t, z) told → y ≡ z) → AreRows most (told ++ known)
  rows_more most told known rows new one = record {
    within = λ t y m. elim (at_append (t, y) told known m) [ inl a ↦ (new t y a).0 | inr b ↦ rows.within t y b ];
    one = λ t y z m n. elim (at_append (t, y) told known m) [
      | inl a ↦ elim (at_append (t, z) told known n) [ inl b ↦ one t y z a b | inr b ↦ (new t y a).1 z b ]
      | inr a ↦ elim (at_append (t, z) told known n) [ inl b ↦ sym ((new t z b).1 y a) | inr b ↦ rows.one t y z a b ]
    ];
  }

  -- what a view was told agrees with itself
  tells_one : (n : ℕ) (led : Led C) (told : List (ℕ × C)) → Tells n led told → (t : ℕ) (y z : C) → Among (t, y) told → Among (t, z) told
      → y ≡ z
  tells_one n (Row x mark) told (u, lt, is, ut) t y z a b = one (subst (λ (q : List (ℕ × C)). Among (t, y) q) ut a)
      (subst (λ (q : List (ℕ × C)). Among (t, z) q) ut b)
    where
      one : Among {A = ℕ × C} (t, y) ((u, x) ∷ []) → Among {A = ℕ × C} (t, z) ((u, x) ∷ []) → y ≡ z
      one (inl e) (inl f) = ap (λ q. q.1) e ∙ sym (ap (λ q. q.1) f)
      one (inl e) (inr f) = absurd f
      one (inr e) f = absurd e
  tells_one n (End code) told (is, ut) t y z a b = absurd (subst (λ (q : List (ℕ × C)). Among (t, y) q) ut a)

  -- a pass that was told of some rows, which agree with those that it knows, knows rows
  told_rows : (most : ℕ) (v w : View C) (full : Bool) (i n : ℕ) (f : Fact C) (told : List (ℕ × C)) → w ≡ looked i n (saw f told v)
      → ((t : ℕ) (y : C) → Among (t, y) told → (t < most) × Agrees v.known t y)
      → ((t : ℕ) (y z : C) → Among (t, y) told → Among (t, z) told → y ≡ z)
      → KnowsRows most (v, full) → KnowsRows most (w, full)
  told_rows most v w full i n f told e new one k = subst (λ (u : View C). KnowsRows most (u, full)) (sym e) record {
    are = rows_more most told v.known k.are new one;
    all = λ is. all_more most v.known (told ++ v.known) (λ t y m. among_right (t, y) told v.known m) (k.all is);
  }

  same_rows : (most : ℕ) (v w : View C) (full : Bool) (i n : ℕ) → w ≡ looked i n v → KnowsRows most (v, full) → KnowsRows most (w, full)
  same_rows most v w full i n e k = subst (λ (u : View C). KnowsRows most (u, full)) (sym e) record { are = k.are; all = k.all }

module _ {N C : Type 0} (starts : N → ℕ → C → Type 0) (leads : N → C → ℕ → Led C → Type 0) where
  pub start_rows : (p : Plan N) (i n : ℕ) (v w : View C) (full : Bool) → StartTold starts leads p i n v w → KnowsRows p.rows (v, full)
      → KnowsRows p.rows (w, full)
  start_rows p i n v w full t k = dite (ℕ_discrete n 0)
      (λ (z : n ≡ 0). same_rows p.rows v w full (start_at p i) n (t.0 z).0 k)
      (λ (z : n ≢ 0). let a = t.1 z in
      told_rows p.rows v w full (start_at p i) n (Start i a.1.0) ((n - 1, a.1.0) ∷ []) a.1.2
      (λ u y m. elim m [
        | inl e ↦
            let row : u ≡ n - 1 = ap (λ q. q.0) e in
            let is : y ≡ a.1.0 = ap (λ q. q.1) e in (
              (let b = a.0 in omega arith),
              subst (λ (q : ℕ × C). Agrees v.known q.0 q.1) (λ j. (sym row j, sym is j)) a.1.3,
            )
        | inr e ↦ absurd e
      ])
      (λ u y x m o. elim m [
        | inl e ↦ elim o [ inl f ↦ ap (λ q. q.1) e ∙ sym (ap (λ q. q.1) f) | inr f ↦ absurd f ]
        | inr e ↦ absurd e
      ]) k)

  pub cell_rows : (p : Plan N) (r : ℕ) (x : C) (s n : ℕ) (v w : View C) (full : Bool) → CellTold starts leads p r x s n v w
      → KnowsRows p.rows (v, full) → KnowsRows p.rows (w, full)
  cell_rows p r x s n v w full t k = dite (ℕ_discrete n 0)
      (λ (z : n ≡ 0). same_rows p.rows v w full (cell_at p r s) n (t.0 z).0 k)
      (λ (z : n ≢ 0). let a = t.1 z in
      told_rows p.rows v w full (cell_at p r s) n (Cell x s a.0) a.1 a.5 a.4 (tells_one n a.0 a.1 a.3) k)
