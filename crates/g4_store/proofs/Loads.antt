-- Loads keep the rule.
use Rattle.std.proofs.Common.{◌≡◌, ◌≢◌, ℕ, ◌+◌, ◌-◌, ◌<◌, ◌≤◌, List, [], ◌∷◌, length, set, get_or, true, false, refl, sym, ap, ◌∙◌, subst, inr, ⊎_elim, arith}
use Rattle.std.proofs.lemmas.List.{set-get_or}
use mathlib.Core.Option.{some, some-injective}
use lib.ListN.{get_elem?}
use Rattle.atomic_table.specs.Table.{State, Me, Step, keeps, Allows}
use Rattle.g4_store.specs.declared.automaton.Led.{Led}
use Rattle.g4_store.specs.declared.automaton.Led.TheVariants.{Row, End}
use Rattle.g4_store.specs.declared.automaton.Fact.{Fact}
use Rattle.g4_store.specs.declared.automaton.Fact.TheVariants.{Start, Cell}
use Rattle.g4_store.specs.declared.automaton.Plan.{Plan}
use Rattle.g4_store.specs.declared.view.Looks.{Looks}
use Rattle.g4_store.specs.declared.view.View.{View}
use Rattle.g4_store.specs.Numbers.{Among, has}
use Rattle.g4_store.specs.Words.{cell_at, start_at, Names, Stands}
use Rattle.g4_store.specs.Views.{one_more, saw, looked, NoStart, NoCell, Tells, Agrees, Knows, Kept, Rule, ProbedStart, ProbedCell, RereadStart, RereadCell, Checked, Reviewed}
use Rattle.g4_store.proofs.Lists.{in_range, at_append}
use Rattle.g4_store.proofs.Placing.{same_cell, names_full}
use Rattle.g4_store.proofs.Views.{each_set, kept_set}

module _ {C : Type 0} where
  -- what a word tells of the rows
  pub tells : (rows : List C) (led : Led C) (w : ℕ) → length rows ≤ 65536 → Names rows led w
      → (told : List (ℕ × C)) × Tells w led told × ((t : ℕ) (y : C) → Among (t, y) told → get_elem? rows t ≡ some y)
  tells rows (Row y mark) w few (t, at, is) = (
    (t, y) ∷ [],
    (t, (let lt = in_range rows t y at in omega arith), is, refl),
    λ u z m. ⊎_elim
        (λ (e : (u, z) ≡ (t, y)). ap (λ q. get_elem? rows q.0) e ∙ at ∙ ap some (sym (ap (λ q. q.1) e)))
        (λ (x : ⊥). absurd x) m,
  )
  tells rows (End code) w few e = ([], (e, refl), λ u z m. absurd m)

module _ {S N C : Type 0} (starts : N → ℕ → C → Type 0) (leads : N → C → ℕ → Led C → Type 0) where
  -- a load: the words stay, and the seat picks a view that has seen and holds as much
  loads : (p : Plan N) (id i : ℕ) (v w : View C) (s : State S (View C)) (h : Kept starts leads p s.words s.views)
      → get_elem? s.views id ≡ some v → w.spent ≡ false → Knows p s.words h.rows h.desk h.count h.holder id w
      → ((n : ℕ) → has n v.holds ≡ true → has n w.holds ≡ true) → ((f : Fact C) → Among f v.taught → Among f w.taught)
      → Rule {S = S} starts leads p (record { words = set s.words i (get_or s.words i 0); homes = s.homes; views = set s.views id w })
  loads p id i v w s h mine live k holds taught =
      subst (λ (ws : List ℕ). Kept starts leads p ws (set s.views id w)) (sym (set-get_or s.words i 0)) record {
        rows = h.rows;
        desk = h.desk;
        count = h.count;
        holder = h.holder;
        shows = h.shows;
        each = each_set p s.words h.rows h.desk h.count h.holder s.views id w (λ j u _ e l. h.each j u e l) (λ _. k);
        keeper = λ f e. kept_set s.views id v w f mine live holds (taught f) (h.keeper f e);
      }

  same_again : (p : Plan N) (id i : ℕ) (v : View C) (s : State S (View C)) (h : Kept starts leads p s.words s.views)
      → get_elem? s.views id ≡ some v → v.spent ≡ false
      → Rule {S = S} starts leads p (record { words = set s.words i (get_or s.words i 0); homes = s.homes; views = set s.views id v })
  same_again p id i v s h mine live = loads p id i v v s h mine live (h.each id v mine live) (λ n e. e) (λ f m. m)

  looks_again : (p : Plan N) (id i : ℕ) (v : View C) (l : Looks) (s : State S (View C)) (h : Kept starts leads p s.words s.views)
      → get_elem? s.views id ≡ some v → v.spent ≡ false
      → Rule {S = S} starts leads p (record {
        words = set s.words i (get_or s.words i 0);
        homes = s.homes;
        views = set s.views id (record v { looks = l });
      })
  looks_again p id i v l s h mine live =
      let k = h.each id v mine live in
      loads p id i v (record v { looks = l }) s h mine live
      record {
        knows = k.knows;
        sees = k.sees;
        taught_seen = k.taught_seen;
        book = k.book;
        fills = k.fills;
        named = k.named;
        idle = k.idle;
        numbers = k.numbers;
        first = k.first;
      }
      (λ n e. e) (λ f m. m)

  sees_more : (p : Plan N) (id i : ℕ) (v : View C) (f : Fact C) (told : List (ℕ × C)) (l : Looks) (s : State S (View C))
      (h : Kept starts leads p s.words s.views) → get_elem? s.views id ≡ some v → v.spent ≡ false
      → Stands p s.words h.rows f → ((t : ℕ) (y : C) → Among (t, y) told → get_elem? h.rows t ≡ some y)
      → Rule {S = S} starts leads p (record {
        words = set s.words i (get_or s.words i 0);
        homes = s.homes;
        views = set s.views id (record (saw f told v) { looks = l });
      })
  sees_more p id i v f told l s h mine live stands right =
      let k = h.each id v mine live in
      loads p id i v (record (saw f told v) { looks = l }) s h mine live record {
        knows = λ t y m. ⊎_elim (λ (x : Among (t, y) told). right t y x) (λ (x : Among (t, y) v.known). k.knows t y x)
            (at_append (t, y) told v.known m);
        sees = λ g m. ⊎_elim (λ (e : g ≡ f). subst (λ (g : Fact C). Stands p s.words h.rows g) (sym e) stands)
            (λ (x : Among g v.seen). k.sees g x) m;
        taught_seen = λ g m. inr (k.taught_seen g m);
        book = k.book;
        fills = k.fills;
        named = k.named;
        idle = k.idle;
        numbers = k.numbers;
        first = k.first;
      } (λ n e. e) (λ g m. m)

  pub checks : (p : Plan N) (slots id i : ℕ) (me : Me S (View C)) (st : Step S) → me.0.spent ≡ false → me.0.is_book ≡ true
      → Allows (Rule {S = S} starts leads p) slots id me i (λ n. n) (Checked starts leads p st me)
  checks p slots id i me st live books s h deep mine small =
      let k = h.each id me.0 mine live in (
        me.0,
        keeps,
        tt,
        same_again p id i me.0 s h mine live,
        (
          refl,
          refl,
          (λ t y m. ap (λ (l : List C). get_elem? l t) (k.book books).1 ∙ k.knows t y m),
          (λ r q x a b. let is = (k.book books).1 in
              h.shows.differ r q x (ap (λ (l : List C). get_elem? l r) (sym is) ∙ a) (ap (λ (l : List C). get_elem? l q) (sym is) ∙ b)),
          (λ f m. (k.fills books f).1 (k.sees f m)),
          subst (λ (l : List C). length l ≤ p.rows) (sym (k.book books).1) h.shows.fits,
        ),
      )

  pub reviews : (p : Plan N) (slots id i : ℕ) (me : Me S (View C)) (st : Step S) → me.0.spent ≡ false
      → Allows (Rule {S = S} starts leads p) slots id me i (λ n. n) (Reviewed starts leads p st me)
  reviews p slots id i me st live s h deep mine small =
      let k = h.each id me.0 mine live in (
        me.0,
        keeps,
        tt,
        same_again p id i me.0 s h mine live,
        (
          refl,
          refl,
          record {
            within = λ t y m. (let a = in_range h.rows t y (k.knows t y m) in let b = h.shows.fits in omega arith);
            one = λ t y z a b. some-injective _ _ (sym (k.knows t y a) ∙ k.knows t z b);
          },
        ),
      )

  pub probes_start : (p : Plan N) (slots id i sy : ℕ) (me : Me S (View C)) (st : Step S) → st.word ≡ i → i ≡ start_at p sy
      → sy < p.starts → me.0.spent ≡ false → Allows (Rule {S = S} starts leads p) slots id me i (λ n. n) (ProbedStart starts leads p st me)
  probes_start p slots id i sy me st word at inside live s h deep mine small =
      let k = h.each id me.0 mine live in
      let v = me.0 in
      let x = get_or s.words i 0 in
      let there : x ≡ get_or s.words (start_at p sy) 0 = ap (λ (j : ℕ). get_or s.words j 0) at in
      let only : (t : ℕ) → st.word ≡ start_at p t → sy ≡ t = λ t e. (let a = sym at ∙ sym word ∙ e in omega arith) in
      let Told : (w : View C) → ℕ → Type 0 = λ w t. (x ≡ 0 → (w ≡ looked (start_at p t) x v) × NoStart t v.seen)
      × (x ≢ 0 → (x ≤ p.rows) × ((y : C) × starts p.net t y × (w ≡ looked (start_at p t) x (saw (Start t y) ((x - 1, y) ∷ []) v))
      × Agrees v.known (x - 1) y)) in
      let tell : (w : View C) → Told w sy → ProbedStart starts leads p st me x (w, me.1)
      = λ w told. (refl, λ t l e. subst (λ (t : ℕ). Told w t) (only t e) told) in
      ⊎_elim
      (λ (e : get_or s.words (start_at p sy) 0 ≡ 0). (
        looked (start_at p sy) x v,
        keeps,
        tt,
        looks_again p id i v (one_more (start_at p sy) x v.looks) s h mine live,
        tell (looked (start_at p sy) x v) (
          (λ _. (refl, λ y m. (let q = k.sees (Start sy y) m in let r = q.1.2 in omega arith))),
          (λ n. absurd (n (there ∙ e))),
        ),
      ))
      (λ (t : (t : ℕ) × (y : C) × starts p.net sy y × (get_elem? h.rows t ≡ some y) × (get_or s.words (start_at p sy) 0 ≡ t + 1)).
      let row : x - 1 ≡ t.0 = let a = t.4 in omega arith in
      let told : List (ℕ × C) = (x - 1, t.1) ∷ [] in (
        looked (start_at p sy) x (saw (Start sy t.1) told v),
        keeps,
        tt,
        sees_more p id i v (Start sy t.1) told (one_more (start_at p sy) x v.looks) s h mine live (inside, (t.0, t.3, t.4)) (λ u z m. ⊎_elim
            (λ (e : (u, z) ≡ (x - 1, t.1)). ap (λ q. get_elem? h.rows q.0) e ∙ ap (λ (j : ℕ). get_elem? h.rows j) row ∙ t.3
            ∙ ap some (sym (ap (λ q. q.1) e)))
            (λ (e : ⊥). absurd e) m),
        tell (looked (start_at p sy) x (saw (Start sy t.1) told v)) (
          (λ z. absurd (let a = t.4 in omega arith)),
          (λ _. (
            (let a = in_range h.rows t.0 t.1 t.3 in let b = h.shows.fits in let c = t.4 in omega arith),
            (
              t.1,
              t.2,
              refl,
              λ z m. some-injective _ _ (sym t.3 ∙ (ap (λ (j : ℕ). get_elem? h.rows j) (sym row) ∙ k.knows (x - 1) z m)),
            ),
          )),
        ),
      ))
      (h.shows.begun sy inside)

  pub probes_cell : (p : Plan N) (slots id i row sy : ℕ) (x : C) (me : Me S (View C)) (st : Step S) → st.word ≡ i
      → i ≡ cell_at p row sy → sy < p.columns → Among (row, x) me.0.known → me.0.spent ≡ false
      → Allows (Rule {S = S} starts leads p) slots id me i (λ n. n) (ProbedCell starts leads p st me)
  probes_cell p slots id i row sy x me st word at inside known live s h deep mine small =
      let k = h.each id me.0 mine live in
      let v = me.0 in
      let n = get_or s.words i 0 in
      let there : n ≡ get_or s.words (cell_at p row sy) 0 = ap (λ (j : ℕ). get_or s.words j 0) at in
      let here = k.knows row x known in
      let only : (r t : ℕ) → t < p.columns → st.word ≡ cell_at p r t
      → (row ≡ r) × (sy ≡ t) = λ r t l e. same_cell p.columns row r sy t inside l (let a = sym at ∙ sym word ∙ e in omega arith) in
      let Told : (w : View C) → ℕ → ℕ → C → Type 0 = λ w r t z. (n ≡ 0 → (w ≡ looked (cell_at p r t) n v) × NoCell z t v.seen)
      × (n ≢ 0 → (led : Led C) × (told : List (ℕ × C)) × leads p.net z t led × Tells n led told
      × ((u : ℕ) (y : C) → Among (u, y) told → (u < p.rows) × Agrees v.known u y)
      × (w ≡ looked (cell_at p r t) n (saw (Cell z t led) told v))) in
      let tell : (w : View C) → Told w row sy x → ProbedCell starts leads p st me n (w, me.1)
      = λ w told. (
        refl,
        λ r t z m l e.
            let o = only r t l e in
            let same : x ≡ z = some-injective _ _ (sym here ∙ ap (λ (j : ℕ). get_elem? h.rows j) o.0 ∙ k.knows r z m) in
            subst (λ (q : ℕ × ℕ × C). Told w q.0 q.1 q.2) (λ j. (o.0 j, o.1 j, same j)) told,
      ) in
      ⊎_elim
      (λ (e : get_or s.words (cell_at p row sy) 0 ≡ 0). (
        looked (cell_at p row sy) n v,
        keeps,
        tt,
        looks_again p id i v (one_more (cell_at p row sy) n v.looks) s h mine live,
        tell (looked (cell_at p row sy) n v) (
          (λ _. (
            refl,
            λ led m. (let q = k.sees (Cell x sy led) m in
                names_full h.rows led (get_or s.words (cell_at p q.1.0 sy) 0) q.1.2
                (ap (λ (r : ℕ). get_or s.words (cell_at p r sy) 0) (h.shows.differ q.1.0 row x q.1.1 here) ∙ e)),
          )),
          (λ ne. absurd (ne (there ∙ e))),
        ),
      ))
      (λ (t : (led : Led C) × leads p.net x sy led × Names h.rows led (get_or s.words (cell_at p row sy) 0)).
      let told = tells h.rows t.0 (get_or s.words (cell_at p row sy) 0) (let a = h.shows.fits in let b = h.shows.limit in omega arith)
      t.2 in (
        looked (cell_at p row sy) n (saw (Cell x sy t.0) told.0 v),
        keeps,
        tt,
        sees_more p id i v (Cell x sy t.0) told.0 (one_more (cell_at p row sy) n v.looks) s h mine live (inside, (row, here, t.2)) told.2,
        tell (looked (cell_at p row sy) n (saw (Cell x sy t.0) told.0 v)) (
          (λ z. absurd (names_full h.rows t.0 (get_or s.words (cell_at p row sy) 0) t.2 (sym there ∙ z))),
          (λ _. (
            t.0,
            told.0,
            t.1,
            subst (λ (w : ℕ). Tells w t.0 told.0) (sym there) told.1,
            (λ u y m. (
              (let a = in_range h.rows u y (told.2 u y m) in let b = h.shows.fits in omega arith),
              (λ z a. some-injective _ _ (sym (told.2 u y m) ∙ k.knows u z a)),
            )),
            refl,
          )),
        ),
      ))
      (h.shows.cells row sy x here inside)

  pub rereads_start : (p : Plan N) (slots id i sy : ℕ) (me : Me S (View C)) (st : Step S) → st.word ≡ i → i ≡ start_at p sy
      → sy < p.starts → me.0.spent ≡ false → me.0.is_book ≡ true
      → Allows (Rule {S = S} starts leads p) slots id me i (λ n. n) (RereadStart starts leads p st me)
  rereads_start p slots id i sy me st word at inside live books s h deep mine small =
      let k = h.each id me.0 mine live in
      let v = me.0 in
      let x = get_or s.words i 0 in
      let known : v.rows ≡ h.rows = (k.book books).1 in
      let there : x ≡ get_or s.words (start_at p sy) 0 = ap (λ (j : ℕ). get_or s.words j 0) at in
      let only : (t : ℕ) → st.word ≡ start_at p t → sy ≡ t = λ t e. (let a = sym at ∙ sym word ∙ e in omega arith) in
      let Told : (w : View C) → ℕ → Type 0 = λ w t. (x ≡ 0 → (w ≡ v) × NoStart t v.facts)
      × (x ≢ 0 → (y : C) × starts p.net t y × (get_elem? v.rows (x - 1) ≡ some y) × Among (Start t y) v.facts
      × (w ≡ saw (Start t y) ((x - 1, y) ∷ []) v)) in
      let tell : (w : View C) → Told w sy → RereadStart starts leads p st me x (w, me.1)
      = λ w told. (refl, λ t l e. subst (λ (t : ℕ). Told w t) (only t e) told) in
      ⊎_elim
      (λ (e : get_or s.words (start_at p sy) 0 ≡ 0). (
        v,
        keeps,
        tt,
        same_again p id i v s h mine live,
        tell v (
          (λ _. (refl, λ y m. (let q = (k.fills books (Start sy y)).0 m in let r = q.1.2 in omega arith))),
          (λ n. absurd (n (there ∙ e))),
        ),
      ))
      (λ (t : (t : ℕ) × (y : C) × starts p.net sy y × (get_elem? h.rows t ≡ some y) × (get_or s.words (start_at p sy) 0 ≡ t + 1)).
      let row : x - 1 ≡ t.0 = let a = t.4 in omega arith in
      let told : List (ℕ × C) = (x - 1, t.1) ∷ [] in
      let here : get_elem? h.rows (x - 1) ≡ some t.1 = ap (λ (j : ℕ). get_elem? h.rows j) row ∙ t.3 in (
        saw (Start sy t.1) told v,
        keeps,
        tt,
        sees_more p id i v (Start sy t.1) told v.looks s h mine live (inside, (t.0, t.3, t.4)) (λ u z m. ⊎_elim
            (λ (e : (u, z) ≡ (x - 1, t.1)). ap (λ q. get_elem? h.rows q.0) e ∙ here ∙ ap some (sym (ap (λ q. q.1) e)))
            (λ (e : ⊥). absurd e) m),
        tell (saw (Start sy t.1) told v) (
          (λ z. absurd (let a = t.4 in omega arith)),
          (λ _. (
            t.1,
            t.2,
            ap (λ (l : List C). get_elem? l (x - 1)) known ∙ here,
            (k.fills books (Start sy t.1)).1 (inside, (t.0, t.3, t.4)),
            refl,
          )),
        ),
      ))
      (h.shows.begun sy inside)

  pub rereads_cell : (p : Plan N) (slots id i row sy : ℕ) (x : C) (me : Me S (View C)) (st : Step S) → st.word ≡ i
      → i ≡ cell_at p row sy → sy < p.columns → get_elem? me.0.rows row ≡ some x → me.0.spent ≡ false → me.0.is_book ≡ true
      → Allows (Rule {S = S} starts leads p) slots id me i (λ n. n) (RereadCell starts leads p st me)
  rereads_cell p slots id i row sy x me st word at inside is_row live books s h deep mine small =
      let k = h.each id me.0 mine live in
      let v = me.0 in
      let n = get_or s.words i 0 in
      let known : v.rows ≡ h.rows = (k.book books).1 in
      let there : n ≡ get_or s.words (cell_at p row sy) 0 = ap (λ (j : ℕ). get_or s.words j 0) at in
      let here : get_elem? h.rows row ≡ some x = ap (λ (l : List C). get_elem? l row) (sym known) ∙ is_row in
      let only : (r t : ℕ) → t < p.columns → st.word ≡ cell_at p r t
      → (row ≡ r) × (sy ≡ t) = λ r t l e. same_cell p.columns row r sy t inside l (let a = sym at ∙ sym word ∙ e in omega arith) in
      let Told : (w : View C) → ℕ → C → Type 0 = λ w t z. (n ≡ 0 → (w ≡ v) × NoCell z t v.facts)
      × (n ≢ 0 → (led : Led C) × (told : List (ℕ × C)) × leads p.net z t led × Tells n led told × Among (Cell z t led) v.facts
      × ((u : ℕ) (y : C) → Among (u, y) told → get_elem? v.rows u ≡ some y) × (w ≡ saw (Cell z t led) told v)) in
      let tell : (w : View C) → Told w sy x → RereadCell starts leads p st me n (w, me.1)
      = λ w told. (
        refl,
        λ r t z m l e.
            let o = only r t l e in
            let same : x ≡ z = some-injective _ _ (sym is_row ∙ ap (λ (j : ℕ). get_elem? v.rows j) o.0 ∙ m) in
            subst (λ (q : ℕ × C). Told w q.0 q.1) (λ j. (o.1 j, same j)) told,
      ) in
      ⊎_elim
      (λ (e : get_or s.words (cell_at p row sy) 0 ≡ 0). (
        v,
        keeps,
        tt,
        same_again p id i v s h mine live,
        tell v (
          (λ _. (
            refl,
            λ led m. (let q = (k.fills books (Cell x sy led)).0 m in
                names_full h.rows led (get_or s.words (cell_at p q.1.0 sy) 0) q.1.2
                (ap (λ (r : ℕ). get_or s.words (cell_at p r sy) 0) (h.shows.differ q.1.0 row x q.1.1 here) ∙ e)),
          )),
          (λ ne. absurd (ne (there ∙ e))),
        ),
      ))
      (λ (t : (led : Led C) × leads p.net x sy led × Names h.rows led (get_or s.words (cell_at p row sy) 0)).
      let told = tells h.rows t.0 (get_or s.words (cell_at p row sy) 0) (let a = h.shows.fits in let b = h.shows.limit in omega arith)
      t.2 in (
        saw (Cell x sy t.0) told.0 v,
        keeps,
        tt,
        sees_more p id i v (Cell x sy t.0) told.0 v.looks s h mine live (inside, (row, here, t.2)) told.2,
        tell (saw (Cell x sy t.0) told.0 v) (
          (λ z. absurd (names_full h.rows t.0 (get_or s.words (cell_at p row sy) 0) t.2 (sym there ∙ z))),
          (λ _. (
            t.0,
            told.0,
            t.1,
            subst (λ (w : ℕ). Tells w t.0 told.0) (sym there) told.1,
            (k.fills books (Cell x sy t.0)).1 (inside, (row, here, t.2)),
            (λ u y m. ap (λ (l : List C). get_elem? l u) known ∙ told.2 u y m),
            refl,
          )),
        ),
      ))
      (h.shows.cells row sy x here inside)
