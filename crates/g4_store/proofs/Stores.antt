-- Stores of starts and cells keep the rule.
use Rattle.std.proofs.Common.{◌≡◌, ◌≢◌, ◌⊎◌, ℕ, ◌+◌, ◌*◌, ◌<◌, ◌≤◌, List, [], ◌∷◌, length, set, get_or, true, false, refl, sym, ap, ◌∙◌, subst, inl, inr, ⊎_elim, arith}
use Rattle.std.proofs.lemmas.List.{get_or-set_same, get_or-set_other, length-set}
use native.Mathlib.Decide.{ℕ_discrete}
use mathlib.Core.Logic.{dite}
use mathlib.Core.Option.{some, some-injective}
use lib.ListN.{get_elem?}
use Rattle.atomic_table.specs.Table.{Me, Step, keeps, Allows}
use Rattle.g4_store.specs.declared.automaton.Led.{Led}
use Rattle.g4_store.specs.declared.automaton.Led.TheVariants.{Row, End}
use Rattle.g4_store.specs.declared.automaton.Fact.{Fact}
use Rattle.g4_store.specs.declared.automaton.Fact.TheVariants.{Start, Cell}
use Rattle.g4_store.specs.declared.automaton.Plan.{Plan}
use Rattle.g4_store.specs.declared.view.View.{View}
use Rattle.g4_store.specs.Numbers.{Among, has}
use Rattle.g4_store.specs.Words.{cell_at, start_at, Names, IsTo, IsOf, Stands, Follows, Shows}
use Rattle.g4_store.specs.Views.{filled, NoStart, NoCell, Tells, IsNamed, Knows, Kept, Rule, FilledStart, FilledCell}
use Rattle.g4_store.proofs.Lists.{in_range, at_append, set_there}
use Rattle.g4_store.proofs.Placing.{same_cell, below_starts, row_one, names_one}
use Rattle.g4_store.proofs.Views.{each_set, kept_set}
use Rattle.g4_store.proofs.Loads.{tells}

module _ {C : Type 0} where
  pub tells_one : (w : ℕ) (led : Led C) (a b : List (ℕ × C)) → Tells w led a → Tells w led b → a ≡ b
  tells_one w (Row y mark) a b (t, lt, tw, ta) (u, lu, uw, ub) =
      let one = row_one t mark u mark lt lu (sym tw ∙ uw) in
      ta ∙ ap (λ (k : ℕ). (k, y) ∷ []) one.0 ∙ sym ub
  tells_one w (End code) a b (e, ta) (f, ub) = ta ∙ sym ub

module _ {N C : Type 0} (starts : N → ℕ → C → Type 0) (leads : N → C → ℕ → Led C → Type 0) where
  -- a word was filled with the fact f
  fill_keeps : (p : Plan N) (id number : ℕ) (v : View C) (f : Fact C) (told : List (ℕ × C)) (words now : List ℕ)
      (views : List (View C)) (h : Kept starts leads p words views)
      → get_elem? views id ≡ some v → v.spent ≡ false → v.is_book ≡ true → has number v.holds ≡ true
      → Shows starts leads p now h.rows → Stands p now h.rows f
      → ((g : Fact C) → Stands p words h.rows g → Stands p now h.rows g)
      → ((g : Fact C) → Stands p now h.rows g → (g ≡ f) ⊎ Stands p words h.rows g)
      → ((t : ℕ) (y : C) → Among (t, y) told → get_elem? h.rows t ≡ some y)
      → ((z : C) → Among z v.loose → IsOf z f)
      → Kept starts leads p now (set views id (filled f told v))
  fill_keeps p id number v f told words now views h mine live books holds shows here still only right loose =
      let k = h.each id v mine live in
      let w = filled f told v in
      let mine' : Knows p now h.rows h.desk h.count h.holder id w = record {
        knows = λ t y m. ⊎_elim (λ (x : Among (t, y) told). right t y x) (λ (x : Among (t, y) v.known). k.knows t y x)
            (at_append (t, y) told v.known m);
        sees = λ g m. ⊎_elim (λ (e : g ≡ f). subst (λ (g : Fact C). Stands p now h.rows g) (sym e) here)
            (λ (x : Among g v.seen). still g (k.sees g x)) m;
        taught_seen = λ g m. ⊎_elim (λ (e : g ≡ f). inl e) (λ (x : Among g v.taught). inr (k.taught_seen g x)) m;
        book = λ _. k.book books;
        fills = λ _ g. (
          (λ m. ⊎_elim (λ (e : g ≡ f). subst (λ (g : Fact C). Stands p now h.rows g) (sym e) here)
              (λ (x : Among g v.facts). still g ((k.fills books g).0 x)) m),
          (λ e. ⊎_elim (λ (x : g ≡ f). inl x) (λ (x : Stands p words h.rows g). inr ((k.fills books g).1 x)) (only g e)),
        );
        named = λ _ t y e. inr (⊎_elim
            (λ (x : Among y v.loose). record { by = f; stands = here; of = loose y x })
            (λ (x : IsNamed p words h.rows y). record { by = x.by; stands = still x.by x.stands; of = x.of })
            (k.named books t y e));
        idle = λ _ _. refl;
        numbers = k.numbers;
        first = k.first;
      } in
      let others : (j : ℕ) (u : View C) → j ≢ id → get_elem? views j ≡ some u → u.spent ≡ false
      → Knows p now h.rows h.desk h.count h.holder j u = λ j u ne e l. let ku = h.each j u e l in record {
        knows = ku.knows;
        sees = λ g m. still g (ku.sees g m);
        taught_seen = ku.taught_seen;
        book = ku.book;
        fills = λ b. absurd (ne ((ku.book b).0 ∙ sym (k.book books).0));
        named = λ b. absurd (ne ((ku.book b).0 ∙ sym (k.book books).0));
        idle = ku.idle;
        numbers = ku.numbers;
        first = ku.first;
      } in
      record {
        rows = h.rows;
        desk = h.desk;
        count = h.count;
        holder = h.holder;
        shows = shows;
        each = each_set p now h.rows h.desk h.count h.holder views id w others (λ _. mine');
        keeper = λ g e. ⊎_elim
            (λ (x : g ≡ f). record {
              number = number;
              seat = id;
              view = w;
              there = set_there views id v w mine;
              live = live;
              holds = holds;
              teaches = inl x;
            })
            (λ (x : Stands p words h.rows g). kept_set views id v w g mine live (λ n e. e) (λ m. inr m) (h.keeper g x))
            (only g e);
      }

module _ {S N C : Type 0} (starts : N → ℕ → C → Type 0) (leads : N → C → ℕ → Led C → Type 0) where
  pub fills_cell : (p : Plan N) (slots id i new number r sy : ℕ) (x : C) (led : Led C) (me : Me S (View C)) (st : Step S)
      → st.word ≡ i → st.first ≡ new → me.0.spent ≡ false → me.0.is_book ≡ true → has number me.0.holds ≡ true
      → i ≡ cell_at p r sy → sy < p.columns → get_elem? me.0.rows r ≡ some x → leads p.net x sy led → Names me.0.rows led new
      → NoCell x sy me.0.facts → ((z : C) → Among z me.0.loose → IsTo z led)
      → Allows (Rule {S = S} starts leads p) slots id me i (λ _. new) (λ _. FilledCell starts leads p st me new)
  fills_cell p slots id i new number r sy x led me st word stored live books holds at inside there led_is names empty loose s h deep
      mine small =
      let v = me.0 in
      let k = h.each id v mine live in
      let g = h.shows in
      let rows = h.rows in
      let now = set s.words i new in
      let known : v.rows ≡ rows = (k.book books).1 in
      let few : length rows ≤ 65536 = let a = g.fits in let b = g.limit in omega arith in
      let there' : get_elem? rows r ≡ some x = ap (λ (l : List C). get_elem? l r) (sym known) ∙ there in
      let names' : Names rows led new = subst (λ (l : List C). Names l led new) known names in
      let row_in : r < length rows = in_range rows r x there' in
      let below : cell_at p r sy < p.rows + p.rows * p.columns = below_starts p r sy (let a = g.fits in omega arith) inside in
      let here : get_or now i 0 ≡ new = get_or-set_same s.words i new 0 (let a = g.size in omega arith) in
      let same : (j : ℕ) → j ≢ i → get_or now j 0 ≡ get_or s.words j 0 = λ j ne. get_or-set_other s.words i j new 0 ne in
      let low : (j : ℕ) → j < p.rows → get_or now j 0 ≡ get_or s.words j 0 = λ j l. same j (λ e. omega arith) in
      let start_same : (j : ℕ) → get_or now (start_at p j) 0 ≡ get_or s.words (start_at p j) 0 =
      λ j. same (start_at p j) (λ e. omega arith) in
      let cell_is : (q t : ℕ) → t < p.columns → cell_at p q t ≡ i
      → (q ≡ r) × (t ≡ sy) = λ q t l e. same_cell p.columns q r t sy l inside (omega arith) in
      let content_is : (q : ℕ) (z : C) → q ≡ r → get_elem? rows q ≡ some z
      → x ≡ z = λ q z e a. some-injective _ _ (sym there' ∙ ap (λ (j : ℕ). get_elem? rows j) (sym e) ∙ a) in
      let shows : Shows starts leads p now rows = record {
        size = length-set s.words i new ∙ g.size;
        limit = g.limit;
        fits = g.fits;
        differ = g.differ;
        parents = λ q z a. subst (Follows starts leads p rows q z)
            (sym (low q (let b = in_range rows q z a in let c = g.fits in omega arith))) (g.parents q z a);
        no_row = λ q a b. low q b ∙ g.no_row q a b;
        cells = λ q t z a b. dite (ℕ_discrete (cell_at p q t) i)
            (λ (e : cell_at p q t ≡ i).
            let c = cell_is q t b e in
            let z_is = content_is q z c.0 a in
            inr (
              led,
              subst (λ (q : C × ℕ). leads p.net q.0 q.1 led) (λ j. (z_is j, sym c.1 j)) led_is,
              subst (λ (w : ℕ). Names rows led w) (sym here ∙ ap (λ (j : ℕ). get_or now j 0) (sym e)) names',
            ))
            (λ (ne : cell_at p q t ≢ i). subst (λ (w : ℕ). (w ≡ 0) ⊎ ((led : Led C) × leads p.net z t led × Names rows led w))
            (sym (same (cell_at p q t) ne)) (g.cells q t z a b));
        no_cell = λ q t a b c. same (cell_at p q t) (λ e. let f = (cell_is q t c e).0 in omega arith) ∙ g.no_cell q t a b c;
        begun = λ j l. subst (λ (w : ℕ). (w ≡ 0) ⊎ ((t : ℕ) × (y : C) × starts p.net j y × (get_elem? rows t ≡ some y) × (w ≡ t + 1)))
            (sym (start_same j)) (g.begun j l);
      } in
      let still : (f : Fact C) → Stands p s.words rows f → Stands p now rows f = elim [
        | Start j y ↦ λ e. (e.0, (e.1.0, e.1.1, start_same j ∙ e.1.2))
        | Cell z t b ↦ λ e. (
          e.0,
          (
            e.1.0,
            e.1.1,
            dite (ℕ_discrete (cell_at p e.1.0 t) i)
                (λ (q : cell_at p e.1.0 t ≡ i).
                let c = cell_is e.1.0 t e.0 q in
                let z_is = content_is e.1.0 z c.0 e.1.1 in
                absurd (empty b (subst (λ (q : C × ℕ). Among (Cell q.0 q.1 b) v.facts) (λ j. (sym z_is j, c.1 j))
                ((k.fills books (Cell z t b)).1 e))))
                (λ (ne : cell_at p e.1.0 t ≢ i). subst (λ (w : ℕ). Names rows b w) (sym (same (cell_at p e.1.0 t) ne)) e.1.2),
          ),
        )
      ] in
      let only : (f : Fact C) → Stands p now rows f → (f ≡ Cell x sy led) ⊎ Stands p s.words rows f = elim [
        | Start j y ↦ λ e. inr (e.0, (e.1.0, e.1.1, sym (start_same j) ∙ e.1.2))
        | Cell z t b ↦ λ e. dite (ℕ_discrete (cell_at p e.1.0 t) i)
            (λ (q : cell_at p e.1.0 t ≡ i).
            let c = cell_is e.1.0 t e.0 q in
            let z_is = content_is e.1.0 z c.0 e.1.1 in
            let b_is : b ≡ led = names_one rows b led new few
            (subst (λ (w : ℕ). Names rows b w) (ap (λ (j : ℕ). get_or now j 0) q ∙ here) e.1.2) names' in
            inl (λ j. Cell (sym z_is j) (c.1 j) (b_is j)))
            (λ (ne : cell_at p e.1.0 t ≢ i). inr (
              e.0,
              (e.1.0, e.1.1, subst (λ (w : ℕ). Names rows b w) (same (cell_at p e.1.0 t) ne) e.1.2),
            ))
      ] in
      let told = tells rows led new few names' in
      let stands : Stands p now rows (Cell x sy led) =
      (inside, (r, there', subst (λ (w : ℕ). Names rows led w) (sym here ∙ ap (λ (j : ℕ). get_or now j 0) at) names')) in (
        filled (Cell x sy led) told.0 v,
        keeps,
        tt,
        fill_keeps starts leads p id number v (Cell x sy led) told.0 s.words now s.views h mine live books holds shows stands still
            only told.2 loose,
        (
          refl,
          λ q t z b other a l e n m.
              let c = same_cell p.columns r q sy t inside l (let f = sym at ∙ sym word ∙ e in omega arith) in
              let z_is : x ≡ z = some-injective _ _ (sym there ∙ ap (λ (j : ℕ). get_elem? v.rows j) c.0 ∙ a) in
              let b_is : led ≡ b = names_one v.rows led b new (subst (λ (l : List C). length l ≤ 65536) (sym known) few) names
              (subst (λ (w : ℕ). Names v.rows b w) stored n) in
              let other_is : told.0 ≡ other = tells_one new led told.0 other told.1
              (subst (λ (q : Led C × ℕ). Tells q.1 q.0 other) (λ j. (sym b_is j, stored j)) m) in (
                (λ a m. empty a (subst (λ (q : C × ℕ). Among (Cell q.0 q.1 a) v.facts) (λ j. (sym z_is j, sym c.1 j)) m)),
                λ j. filled (Cell (z_is j) (c.1 j) (b_is j)) (other_is j) v,
              ),
        ),
      )

  pub fills_start : (p : Plan N) (slots id i new number sy t : ℕ) (y : C) (me : Me S (View C)) (st : Step S) → st.word ≡ i
      → st.first ≡ new → me.0.spent ≡ false → me.0.is_book ≡ true → has number me.0.holds ≡ true
      → i ≡ start_at p sy → sy < p.starts → get_elem? me.0.rows t ≡ some y → starts p.net sy y → new ≡ t + 1 → NoStart sy me.0.facts
      → ((z : C) → Among z me.0.loose → y ≡ z)
      → Allows (Rule {S = S} starts leads p) slots id me i (λ _. new) (λ _. FilledStart starts leads p st me new)
  fills_start p slots id i new number sy t y me st word stored live books holds at inside there begins new_is empty loose s h deep
      mine small =
      let v = me.0 in
      let k = h.each id v mine live in
      let g = h.shows in
      let rows = h.rows in
      let now = set s.words i new in
      let known : v.rows ≡ rows = (k.book books).1 in
      let there' : get_elem? rows t ≡ some y = ap (λ (l : List C). get_elem? l t) (sym known) ∙ there in
      let here : get_or now i 0 ≡ new = get_or-set_same s.words i new 0 (let a = g.size in omega arith) in
      let same : (j : ℕ) → j ≢ i → get_or now j 0 ≡ get_or s.words j 0 = λ j ne. get_or-set_other s.words i j new 0 ne in
      let low : (j : ℕ) → j < p.rows → get_or now j 0 ≡ get_or s.words j 0 = λ j l. same j (λ e. omega arith) in
      let cell_same : (q u : ℕ) → q < p.rows → u < p.columns
      → get_or now (cell_at p q u) 0 ≡ get_or s.words (cell_at p q u) 0 =
      λ q u a b. same (cell_at p q u) (λ e. let f = below_starts p q u a b in omega arith) in
      let start_is : (j : ℕ) → start_at p j ≡ i → j ≡ sy = λ j e. omega arith in
      let begun' : (j : ℕ) → j < p.starts → (get_or now (start_at p j) 0 ≡ 0)
      ⊎ ((u : ℕ) × (z : C) × starts p.net j z × (get_elem? rows u ≡ some z) × (get_or now (start_at p j) 0 ≡ u + 1)) =
      λ j l. dite (ℕ_discrete (start_at p j) i)
      (λ (e : start_at p j ≡ i). inr (
        t,
        y,
        subst (λ (j : ℕ). starts p.net j y) (sym (start_is j e)) begins,
        there',
        ap (λ (j : ℕ). get_or now j 0) e ∙ here ∙ new_is,
      ))
      (λ (ne : start_at p j ≢ i). subst (λ (w : ℕ). (w ≡ 0)
      ⊎ ((u : ℕ) × (z : C) × starts p.net j z × (get_elem? rows u ≡ some z) × (w ≡ u + 1))) (sym (same (start_at p j) ne))
      (g.begun j l)) in
      let shows : Shows starts leads p now rows = record {
        size = length-set s.words i new ∙ g.size;
        limit = g.limit;
        fits = g.fits;
        differ = g.differ;
        parents = λ q z a. subst (Follows starts leads p rows q z)
            (sym (low q (let b = in_range rows q z a in let c = g.fits in omega arith))) (g.parents q z a);
        no_row = λ q a b. low q b ∙ g.no_row q a b;
        cells = λ q u z a b. subst (λ (w : ℕ). (w ≡ 0) ⊎ ((led : Led C) × leads p.net z u led × Names rows led w))
            (sym (cell_same q u (let d = in_range rows q z a in let c = g.fits in omega arith) b)) (g.cells q u z a b);
        no_cell = λ q u a b c. cell_same q u b c ∙ g.no_cell q u a b c;
        begun = begun';
      } in
      let still : (f : Fact C) → Stands p s.words rows f → Stands p now rows f = elim [
        | Start j z ↦ λ e. dite (ℕ_discrete (start_at p j) i)
            (λ (q : start_at p j ≡ i).
            absurd (empty z (subst (λ (j : ℕ). Among (Start j z) v.facts) (start_is j q) ((k.fills books (Start j z)).1 e))))
            (λ (ne : start_at p j ≢ i). (e.0, (e.1.0, e.1.1, same (start_at p j) ne ∙ e.1.2)))
        | Cell z u b ↦ λ e. (
          e.0,
          (
            e.1.0,
            e.1.1,
            subst (λ (w : ℕ). Names rows b w)
                (sym (cell_same e.1.0 u (let d = in_range rows e.1.0 z e.1.1 in let c = g.fits in omega arith) e.0)) e.1.2,
          ),
        )
      ] in
      let only : (f : Fact C) → Stands p now rows f → (f ≡ Start sy y) ⊎ Stands p s.words rows f = elim [
        | Start j z ↦ λ e. dite (ℕ_discrete (start_at p j) i)
            (λ (q : start_at p j ≡ i).
            let row : e.1.0 ≡ t = let a = e.1.2 in let b = ap (λ (j : ℕ). get_or now j 0) q ∙ here ∙ new_is in omega arith in
            let z_is : z ≡ y = some-injective _ _ (sym e.1.1 ∙ ap (λ (j : ℕ). get_elem? rows j) row ∙ there') in
            inl (λ k. Start (start_is j q k) (z_is k)))
            (λ (ne : start_at p j ≢ i). inr (e.0, (e.1.0, e.1.1, sym (same (start_at p j) ne) ∙ e.1.2)))
        | Cell z u b ↦ λ e. inr (
          e.0,
          (
            e.1.0,
            e.1.1,
            subst (λ (w : ℕ). Names rows b w) (cell_same e.1.0 u
                (let d = in_range rows e.1.0 z e.1.1 in let c = g.fits in omega arith) e.0) e.1.2,
          ),
        )
      ] in
      let right : (u : ℕ) (z : C) → Among (u, z) ((t, y) ∷ []) → get_elem? rows u ≡ some z = λ u z m. ⊎_elim
      (λ (e : (u, z) ≡ (t, y)). ap (λ q. get_elem? rows q.0) e ∙ there' ∙ ap some (sym (ap (λ q. q.1) e)))
      (λ (e : ⊥). absurd e) m in
      let stands : Stands p now rows (Start sy y) = (inside, (t, there', ap (λ (j : ℕ). get_or now j 0) (sym at) ∙ here ∙ new_is)) in (
        filled (Start sy y) ((t, y) ∷ []) v,
        keeps,
        tt,
        fill_keeps starts leads p id number v (Start sy y) ((t, y) ∷ []) s.words now s.views h mine live books holds shows stands
            still only right loose,
        (
          refl,
          λ j u z l e n a.
              let j_is : sy ≡ j = let f = sym at ∙ sym word ∙ e in omega arith in
              let u_is : t ≡ u = let f = n in let b = stored in omega arith in
              let z_is : y ≡ z = some-injective _ _ (sym there ∙ ap (λ (j : ℕ). get_elem? v.rows j) u_is ∙ a) in (
                (λ a m. empty a (subst (λ (j : ℕ). Among (Start j a) v.facts) (sym j_is) m)),
                λ k. filled (Start (j_is k) (z_is k)) ((u_is k, z_is k) ∷ []) v,
              ),
        ),
      )
