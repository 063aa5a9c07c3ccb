-- The store of a parent word keeps the rule.
use Rattle.std.proofs.Common.{◌≡◌, ◌≢◌, ◌⊎◌, ℕ, ◌+◌, ◌<◌, ◌≤◌, List, [], ◌∷◌, ◌++◌, length, set, get_or, true, false, true≢false, refl, sym, ap, ◌∙◌, subst, inl, inr, ⊎_elim, arith, length-append}
use Rattle.std.proofs.lemmas.List.{get_or-set_same, get_or-set_other, length-set}
use mathlib.Core.Option.{some, some-injective}
use lib.ListN.{get_elem?}
use Rattle.atomic_table.specs.Table.{Me, Step, keeps, Allows}
use Rattle.atomic_table.proofs.Lists.{at_longer}
use Rattle.g4_store.specs.declared.automaton.Led.{Led}
use Rattle.g4_store.specs.declared.automaton.Led.TheVariants.{Row, End}
use Rattle.g4_store.specs.declared.automaton.Fact.{Fact}
use Rattle.g4_store.specs.declared.automaton.Fact.TheVariants.{Start, Cell}
use Rattle.g4_store.specs.declared.automaton.Plan.{Plan}
use Rattle.g4_store.specs.declared.view.View.{View}
use Rattle.g4_store.specs.Numbers.{Among, has}
use Rattle.g4_store.specs.Words.{cell_at, start_at, Names, Stands, Follows, Shows}
use Rattle.g4_store.specs.Views.{grown, IsNamed, Knows, Rule, Grown}
use Rattle.g4_store.proofs.Lists.{in_range, snoc_at}
use Rattle.g4_store.proofs.Placing.{same_cell, names_one, names_full, names_longer}
use Rattle.g4_store.proofs.Views.{each_set, kept_set}

module _ {N C : Type 0} (starts : N → ℕ → C → Type 0) (leads : N → C → ℕ → Led C → Type 0) where
  follows_more : (p : Plan N) (rows : List C) (x : C) (r : ℕ) (y : C) (w : ℕ) → Follows starts leads p rows r y w
      → Follows starts leads p (rows ++ x ∷ []) r y w
  follows_more p rows x r y w (inl a) = inl a
  follows_more p rows x r y w (inr (q, s, m, z, lt, at, a, b, c)) = inr (q, s, m, z, lt, at_longer rows (x ∷ []) q z at, a, b, c)

  -- one parent word is the word of one content
  follows_one : ((net : N) (i : ℕ) (x y : C) → starts net i x → starts net i y → x ≡ y)
      → ((net : N) (x : C) (s : ℕ) (a b : Led C) → leads net x s a → leads net x s b → a ≡ b)
      → (p : Plan N) (rows : List C) (r w : ℕ) (x y : C) → Follows starts leads p rows r x w → Follows starts leads p rows r y w → x ≡ y
  follows_one one_start one_led p rows r w x y (inl (i, li, wi, a)) (inl (j, lj, wj, b)) =
      one_start p.net i x y a (subst (λ (k : ℕ). starts p.net k y) (let e : j ≡ i = omega arith in e) b)
  follows_one one_start one_led p rows r w x y (inl (i, li, wi, a)) (inr (q, s, m, z, lt, at, ls, wq, b)) = absurd (omega arith)
  follows_one one_start one_led p rows r w x y (inr (q, s, m, z, lt, at, ls, wq, b)) (inl (i, li, wi, a)) = absurd (omega arith)
  follows_one one_start one_led p rows r w x y (inr (q, s, m, z, lt, at, ls, wq, b)) (inr (u, t, n, o, lu, au, lt', wu, c)) =
      let e = same_cell p.columns q u s t ls lt' (omega arith) in
      let same : z ≡ o = some-injective _ _ (sym at ∙ ap (λ (k : ℕ). get_elem? rows k) e.0 ∙ au) in
      let led : Row x m ≡ Row y n = one_led p.net o t (Row x m) (Row y n)
      (subst (λ (k : C × ℕ). leads p.net k.0 k.1 (Row x m)) (λ i. (same i, e.1 i)) b) c in
      ap (content x) led
    where
      content : C → Led C → C
      content d (Row y m) = y
      content d (End c) = d

module _ {S N C : Type 0} (starts : N → ℕ → C → Type 0) (leads : N → C → ℕ → Led C → Type 0)
    (one_start : (net : N) (i : ℕ) (x y : C) → starts net i x → starts net i y → x ≡ y)
    (one_led : (net : N) (x : C) (s : ℕ) (a b : Led C) → leads net x s a → leads net x s b → a ≡ b) where
  pub grows : (p : Plan N) (slots id i new number : ℕ) (x : C) (me : Me S (View C)) (st : Step S) → st.word ≡ i → st.first ≡ new
      → me.0.spent ≡ false → me.0.is_book ≡ true → me.0.loose ≡ [] → has number me.0.holds ≡ true
      → i ≡ length me.0.rows → i < p.rows → Follows starts leads p me.0.rows i x new → ((r : ℕ) → get_elem? me.0.rows r ≡ some x → ⊥)
      → Allows (Rule {S = S} starts leads p) slots id me i (λ _. new) (λ _. Grown starts leads p st me new)
  grows p slots id i new number x me st word stored live books tight holds last room follows fresh s h deep mine small =
      let v = me.0 in
      let k = h.each id v mine live in
      let g = h.shows in
      let rows = h.rows in
      let rows' = rows ++ x ∷ [] in
      let now = set s.words i new in
      let w = grown x v in
      let known : v.rows ≡ rows = (k.book books).1 in
      let i_is : i ≡ length rows = last ∙ ap length known in
      let few : length rows ≤ 65536 = let a = g.fits in let b = g.limit in omega arith in
      let follows' : Follows starts leads p rows i x new = subst (λ (l : List C). Follows starts leads p l i x new) known follows in
      let fresh' : (r : ℕ) → get_elem? rows r ≡ some x → ⊥ = λ r e. fresh r (ap (λ (l : List C). get_elem? l r) known ∙ e) in
      let len : length rows' ≡ length rows + 1 = length-append rows (x ∷ []) in
      let here : get_or now i 0 ≡ new = get_or-set_same s.words i new 0 (let e = g.size in omega arith) in
      let same : (j : ℕ) → j ≢ i → get_or now j 0 ≡ get_or s.words j 0 = λ j ne. get_or-set_other s.words i j new 0 ne in
      let cells : (r t : ℕ) → get_or now (cell_at p r t) 0 ≡ get_or s.words (cell_at p r t) 0 =
      λ r t. same (cell_at p r t) (λ e. omega arith) in
      let begins : (j : ℕ) → get_or now (start_at p j) 0 ≡ get_or s.words (start_at p j) 0 = λ j. same (start_at p j) (λ e. omega arith) in
      let shows : Shows starts leads p now rows' = record {
        size = length-set s.words i new ∙ g.size;
        limit = g.limit;
        fits = omega arith;
        differ = λ r q z a b. ⊎_elim
            (λ (a : get_elem? rows r ≡ some z). ⊎_elim (λ (b : get_elem? rows q ≡ some z). g.differ r q z a b)
            (λ (b : (q ≡ length rows) × (x ≡ z)). absurd (fresh' r (a ∙ ap some (sym b.1)))) (snoc_at rows x z q b))
            (λ (a : (r ≡ length rows) × (x ≡ z)). ⊎_elim
            (λ (b : get_elem? rows q ≡ some z). absurd (fresh' q (b ∙ ap some (sym a.1))))
            (λ (b : (q ≡ length rows) × (x ≡ z)). a.0 ∙ sym b.0) (snoc_at rows x z q b))
            (snoc_at rows x z r a);
        parents = λ r z a. ⊎_elim
            (λ (a : get_elem? rows r ≡ some z). subst (Follows starts leads p rows' r z)
            (sym (same r (λ e. let b = in_range rows r z a in omega arith)))
            (follows_more starts leads p rows x r z (get_or s.words r 0) (g.parents r z a)))
            (λ (a : (r ≡ length rows) × (x ≡ z)). let at : r ≡ i = a.0 ∙ sym i_is in
            subst (λ (q : ℕ × C). Follows starts leads p rows' q.0 q.1 (get_or now q.0 0)) (λ j. (sym at j, a.1 j))
            (subst (Follows starts leads p rows' i x) (sym here) (follows_more starts leads p rows x i x new follows')))
            (snoc_at rows x z r a);
        no_row = λ r a b. same r (λ e. omega arith) ∙ g.no_row r (omega arith) b;
        cells = λ r t z a b. subst (λ (v : ℕ). (v ≡ 0) ⊎ ((led : Led C) × leads p.net z t led × Names rows' led v)) (sym (cells r t))
            (⊎_elim
            (λ (a : get_elem? rows r ≡ some z). ⊎_elim (λ (e : get_or s.words (cell_at p r t) 0 ≡ 0). inl e)
            (λ (e : (led : Led C) × leads p.net z t led × Names rows led (get_or s.words (cell_at p r t) 0)).
            inr (e.0, e.1, names_longer rows x e.0 (get_or s.words (cell_at p r t) 0) e.2)) (g.cells r t z a b))
            (λ (a : (r ≡ length rows) × (x ≡ z)). inl (g.no_cell r t (let e = a.0 in omega arith) (let e = a.0 in omega arith) b))
            (snoc_at rows x z r a));
        no_cell = λ r t a b c. cells r t ∙ g.no_cell r t (omega arith) b c;
        begun = λ j l. subst (λ (w : ℕ). (w ≡ 0) ⊎ ((t : ℕ) × (y : C) × starts p.net j y × (get_elem? rows' t ≡ some y)
            × (w ≡ t + 1))) (sym (begins j)) (⊎_elim
            (λ (e : get_or s.words (start_at p j) 0 ≡ 0). inl e)
            (λ (e : (t : ℕ) × (y : C) × starts p.net j y × (get_elem? rows t ≡ some y) × (get_or s.words (start_at p j) 0 ≡ t + 1)).
            inr (e.0, e.1, e.2, at_longer rows (x ∷ []) e.0 e.1 e.3, e.4))
            (g.begun j l));
      } in
      let still : (f : Fact C) → Stands p s.words rows f → Stands p now rows' f = elim [
        | Start j y ↦ λ e. (e.0, (e.1.0, at_longer rows (x ∷ []) e.1.0 y e.1.1, begins j ∙ e.1.2))
        | Cell z t b ↦ λ e. (
          e.0,
          (
            e.1.0,
            at_longer rows (x ∷ []) e.1.0 z e.1.1,
            subst (λ (w : ℕ). Names rows' b w) (sym (cells e.1.0 t)) (names_longer rows x b (get_or s.words (cell_at p e.1.0 t) 0) e.1.2),
          ),
        )
      ] in
      let back : (f : Fact C) → Stands p now rows' f → Stands p s.words rows f = elim [
        | Start j y ↦ λ e. ⊎_elim
            (λ (n : get_or s.words (start_at p j) 0 ≡ 0). absurd (let a = e.1.2 in let b = begins j in omega arith))
            (λ (n : (t : ℕ) × (y : C) × starts p.net j y × (get_elem? rows t ≡ some y) × (get_or s.words (start_at p j) 0 ≡ t + 1)).
            let row : e.1.0 ≡ n.0 = let a = e.1.2 in let b = begins j in let c = n.4 in omega arith in (
              e.0,
              (
                e.1.0,
                ⊎_elim
                    (λ (a : get_elem? rows e.1.0 ≡ some y). a)
                    (λ (a : (e.1.0 ≡ length rows) × (x ≡ y)). absurd (let b = in_range rows n.0 n.1 n.3 in let c = a.0 in omega arith))
                    (snoc_at rows x y e.1.0 e.1.1),
                sym (begins j) ∙ e.1.2,
              ),
            ))
            (g.begun j e.0)
        | Cell z t b ↦ λ e.
            let r = e.1.0 in
            let named : Names rows' b (get_or s.words (cell_at p r t) 0) = subst (λ (w : ℕ). Names rows' b w) (cells r t) e.1.2 in
            ⊎_elim
            (λ (a : get_elem? rows r ≡ some z). ⊎_elim
            (λ (n : get_or s.words (cell_at p r t) 0 ≡ 0). absurd (names_full rows' b (get_or s.words (cell_at p r t) 0) named n))
            (λ (n : (led : Led C) × leads p.net z t led × Names rows led (get_or s.words (cell_at p r t) 0)).
            let b_is : n.0 ≡ b = names_one rows' n.0 b (get_or s.words (cell_at p r t) 0) (let c = g.limit in omega arith)
            (names_longer rows x n.0 (get_or s.words (cell_at p r t) 0) n.2) named in
            (e.0, (r, a, subst (λ (led : Led C). Names rows led (get_or s.words (cell_at p r t) 0)) b_is n.2)))
            (g.cells r t z a e.0))
            (λ (a : (r ≡ length rows) × (x ≡ z)). absurd
            (names_full rows' b (get_or s.words (cell_at p r t) 0) named
            (g.no_cell r t (let c = a.0 in omega arith) (let c = a.0 in omega arith) e.0)))
            (snoc_at rows x z r e.1.1)
      ] in
      let mine' : Knows p now rows' h.desk h.count h.holder id w = record {
        knows = λ t y m. at_longer rows (x ∷ []) t y (k.knows t y m);
        sees = λ f m. still f (k.sees f m);
        taught_seen = k.taught_seen;
        fills = λ _ f. ((λ m. still f ((k.fills books f).0 m)), (λ e. (k.fills books f).1 (back f e)));
        book = λ _. ((k.book books).0, ap (λ (l : List C). l ++ x ∷ []) known);
        named = λ _ t y e. ⊎_elim
            (λ (a : get_elem? rows t ≡ some y). ⊎_elim
            (λ (m : Among y v.loose). absurd (subst (λ (l : List C). Among y l) tight m))
            (λ (n : IsNamed p s.words rows y). inr record { by = n.by; stands = still n.by n.stands; of = n.of })
            (k.named books t y a))
            (λ (a : (t ≡ length rows) × (x ≡ y)). inl (inl (sym a.1)))
            (snoc_at rows x y t e);
        idle = λ _ none. absurd (true≢false (sym holds ∙ ap (λ (l : List ℕ). has number l) none));
        numbers = k.numbers;
        first = k.first;
      } in
      let others : (j : ℕ) (u : View C) → j ≢ id → get_elem? s.views j ≡ some u → u.spent ≡ false
      → Knows p now rows' h.desk h.count h.holder j u = λ j u ne e l. let ku = h.each j u e l in record {
        knows = λ t y m. at_longer rows (x ∷ []) t y (ku.knows t y m);
        sees = λ f m. still f (ku.sees f m);
        taught_seen = ku.taught_seen;
        fills = λ b. absurd (ne ((ku.book b).0 ∙ sym (k.book books).0));
        book = λ b. absurd (ne ((ku.book b).0 ∙ sym (k.book books).0));
        named = λ b. absurd (ne ((ku.book b).0 ∙ sym (k.book books).0));
        idle = ku.idle;
        numbers = ku.numbers;
        first = ku.first;
      } in (
        w,
        keeps,
        tt,
        record {
          rows = rows';
          desk = h.desk;
          count = h.count;
          holder = h.holder;
          shows = shows;
          each = each_set p now rows' h.desk h.count h.holder s.views id w others (λ _. mine');
          keeper = λ f e. kept_set s.views id v w f mine live (λ n e. e) (λ m. m) (h.keeper f (back f e));
        },
        (
          refl,
          λ y f. ap (λ (z : C). grown z v) (follows_one starts leads one_start one_led p v.rows i new x y follows
              (subst (λ (q : ℕ × ℕ). Follows starts leads p v.rows q.0 y q.1) (λ j. (word j, stored j)) f)),
        ),
      )
