-- What a reading worker finds is what its path has.
use Rattle.std.proofs.Common.{◌≡◌, ℕ, suc, ◌+◌, ◌<◌, List, [], ◌∷◌, ◌++◌, length, take, drop, get_or, zero, Option, None, Some, refl, sym, ap, ◌∙◌, subst, inl, ⊎_elim, arith, append_assoc}
use Rattle.std.proofs.lemmas.List.{take-append-drop, length-take-le}
use mathlib.Core.Option as maybe
use mathlib.Core.Option.{some}
use lib.ListN.{get_elem?}
use Rattle.g4_store.specs.declared.automaton.Led.{Led}
use Rattle.g4_store.specs.declared.automaton.Led.TheVariants.{Row, End}
use Rattle.g4_store.specs.declared.automaton.Fact.{Fact}
use Rattle.g4_store.specs.declared.automaton.Fact.TheVariants.{Start, Cell}
use Rattle.g4_store.specs.declared.path.Looked.{Looked}
use Rattle.g4_store.specs.declared.path.Path.{Path}
use Rattle.g4_store.specs.Numbers.{Among}
use Rattle.g4_store.specs.Paths.{Next, facts_of, cells_of, next_facts}
use Rattle.g4_core.specs.declared.event.Entry.{Entry}
use Rattle.g4_core.specs.declared.event.Entry.TheVariants as entry
use Rattle.g4_core.specs.States.{State, EndsWith, IsQuestion, Says, cell_of, Holds, IsSound}
use Rattle.g4_core.specs.Consistent.{LeadsToEnd, IsOnWay, IsLearned}
use Rattle.g4_core.proofs.Lists.{in_range, one_there, at_append}
use Rattle.g4_core.proofs.Routes.{drop_there, question_leads}

-- a default that is not there
pub filled_at : {A : Type 0} (l : List (Option A)) (i : ℕ) (a : A) → get_or l i None ≡ Some a → get_elem? l i ≡ maybe.some (Some a)
filled_at [] i a e = absurd cc
filled_at (x ∷ xs) zero a e = ap maybe.some e
filled_at (x ∷ xs) (suc i) a e = filled_at xs i a e

module _ {N C : Type 0} (starts : N → ℕ → C → Type 0) (leads : N → C → ℕ → Led C → Type 0)
    (one_start : (net : N) (i : ℕ) (x y : C) → starts net i x → starts net i y → x ≡ y)
    (one_led : (net : N) (x : C) (s : ℕ) (a b : Led C) → leads net x s a → leads net x s b → a ≡ b) where
  -- a filled start of the path has the path's content
  pub start_read : (s : State N C) → IsSound starts leads s → (path : Path C) → IsQuestion starts leads s.plan path → (t : ℕ)
      → get_or s.starts path.start None ≡ Some t → IsOnWay starts leads s path t 0
  start_read s sound path q t e =
      let at = filled_at s.starts path.start t e in
      let found = sound.begun path.start t at in
      let same : found.0 ≡ path.content = one_start s.plan.net path.start found.0 path.content found.2 q.0.1 in
      let here : get_elem? s.rows t ≡ some path.content = found.1 ∙ ap some same in
      record {
        content = path.content;
        done = Start path.start path.content ∷ [];
        here = here;
        split = refl;
        onward = question_leads starts leads s.plan path q;
        seen = λ f m. ⊎_elim
            (λ (h : f ≡ Start path.start path.content). subst (Holds s) (sym h) (t, at, here))
            (λ (h : ⊥). absurd h) m;
      }

  -- the next cell on the way is there, and if it is filled, it holds what the path says
  pub record IsNext (s : State N C) (path : Path C) (row k : ℕ) (way : IsOnWay starts leads s path row k) : Type 0 where
    pub looked : Looked C
    pub rest : List (Looked C)
    pub from_here : drop k path.looked.items ≡ looked ∷ rest
    pub there : get_elem? path.looked.items k ≡ some looked
    pub after : drop (k + 1) path.looked.items ≡ rest
    pub within : looked.column < s.plan.columns
    pub leads_so : leads s.plan.net way.content looked.column looked.led
    pub onward : Next starts leads looked.led (λ y. LeadsToEnd starts leads s.plan y rest) (rest ≡ [])

  pub next_on : (s : State N C) (path : Path C) (row k : ℕ) (way : IsOnWay starts leads s path row k) → IsNext s path row k way
  next_on s path row k way = go (drop k path.looked.items) refl way.onward
    where
      go : (ls : List (Looked C)) → drop k path.looked.items ≡ ls → LeadsToEnd starts leads s.plan way.content ls → IsNext s path row k way
      go [] e h = absurd h
      go (l ∷ rest) e h =
          let d = drop_there path.looked.items k l rest e in
          record {
            looked = l;
            rest = rest;
            from_here = e;
            there = d.0;
            after = d.1;
            within = h.0;
            leads_so = h.1;
            onward = h.2;
          }

  -- a filled cell holds what the path says
  cell_says : (s : State N C) → IsSound starts leads s → (path : Path C) (row k : ℕ) (way : IsOnWay starts leads s path row k)
      → (n : IsNext s path row k way) (e : Entry) → get_or s.cells (cell_of s row n.looked.column) None ≡ Some e
      → Says s.rows e n.looked.led × Holds s (Cell way.content n.looked.column n.looked.led)
  cell_says s sound path row k way n e is =
      let at = filled_at s.cells (cell_of s row n.looked.column) e is in
      let found = sound.cells row n.looked.column e n.within at in
      let same : found.0 ≡ way.content = one_there s.rows row found.0 way.content found.2 way.here in
      let led : found.1 ≡ n.looked.led =
      one_led s.plan.net way.content n.looked.column found.1 n.looked.led
      (subst (λ (x : C). leads s.plan.net x n.looked.column found.1) same found.4) n.leads_so in
      let says : Says s.rows e n.looked.led = subst (Says s.rows e) led found.3 in
      (says, (n.within, row, e, way.here, at, says))

  -- the cell is one more that was read
  seen_more : (s : State N C) (done : List (Fact C)) (g : Fact C) → ((f : Fact C) → Among f done → Holds s f) → Holds s g
      → (f : Fact C) → Among f (done ++ g ∷ []) → Holds s f
  seen_more s done g all here f m =
      ⊎_elim
      (λ (h : Among f done). all f h)
      (λ (h : Among f (g ∷ [])). ⊎_elim (λ (e : f ≡ g). subst (Holds s) (sym e) here) (λ (b : ⊥). absurd b) h)
      (at_append f done (g ∷ []) m)

  split_more : (path : Path C) (x : C) (done : List (Fact C)) (ls rest : List (Looked C)) (l : Looked C)
      → facts_of path ≡ done ++ cells_of x ls → ls ≡ l ∷ rest
      → facts_of path ≡ (done ++ Cell x l.column l.led ∷ []) ++ next_facts l.led (λ y. cells_of y rest)
  split_more path x done ls rest l e is =
      e ∙ ap (λ (m : List (Looked C)). done ++ cells_of x m) is
      ∙ sym (append_assoc done (Cell x l.column l.led ∷ []) (next_facts l.led (λ y. cells_of y rest)))

  -- a cell that holds a row leads on
  pub row_read : (s : State N C) → IsSound starts leads s → (path : Path C) (row k : ℕ) (way : IsOnWay starts leads s path row k)
      → (n : IsNext s path row k way) (t mark : ℕ) → get_or s.cells (cell_of s row n.looked.column) None ≡ Some (entry.Row t mark)
      → IsOnWay starts leads s path t (k + 1)
  row_read s sound path row k way n t mark is =
      let found = cell_says s sound path row k way n (entry.Row t mark) is in
      go n.looked.led refl found.0 n.onward found.1
    where
      go : (led : Led C) → n.looked.led ≡ led → Says s.rows (entry.Row t mark) led
          → Next starts leads led (λ y. LeadsToEnd starts leads s.plan y n.rest) (n.rest ≡ [])
          → Holds s (Cell way.content n.looked.column n.looked.led) → IsOnWay starts leads s path t (k + 1)
      go (Row y m) e says onward holds =
          record {
            content = y;
            done = way.done ++ Cell way.content n.looked.column n.looked.led ∷ [];
            here = says.0;
            split = split_more path way.content way.done (drop k path.looked.items) n.rest n.looked way.split n.from_here
                ∙ (λ i. (way.done ++ Cell way.content n.looked.column n.looked.led ∷ []) ++ next_facts (e i) (λ z. cells_of z n.rest))
                ∙ ap (λ (ls : List (Looked C)). (way.done ++ Cell way.content n.looked.column n.looked.led ∷ []) ++ cells_of y ls)
                (sym n.after);
            onward = subst (LeadsToEnd starts leads s.plan y) (sym n.after) onward;
            seen = seen_more s way.done (Cell way.content n.looked.column n.looked.led) way.seen holds;
          }
      go (End c) e says onward holds = absurd says

  -- a cell that holds an end is the last of the path, which is then filled whole
  pub end_read : (s : State N C) → IsSound starts leads s → (path : Path C) (row k : ℕ) (way : IsOnWay starts leads s path row k)
      → (n : IsNext s path row k way) (code : ℕ) → get_or s.cells (cell_of s row n.looked.column) None ≡ Some (entry.End code)
      → IsLearned s path × EndsWith path code k
  end_read s sound path row k way n code is =
      let found = cell_says s sound path row k way n (entry.End code) is in
      go n.looked.led refl found.0 n.onward found.1
    where
      go : (led : Led C) → n.looked.led ≡ led → Says s.rows (entry.End code) led
          → Next starts leads led (λ y. LeadsToEnd starts leads s.plan y n.rest) (n.rest ≡ [])
          → Holds s (Cell way.content n.looked.column n.looked.led) → IsLearned s path × EndsWith path code k
      go (Row y m) e says onward holds = absurd says
      go (End c) e says onward holds =
          let g = Cell way.content n.looked.column n.looked.led in
          let all : facts_of path ≡ (way.done ++ g ∷ []) ++ [] =
          split_more path way.content way.done (drop k path.looked.items) n.rest n.looked way.split n.from_here
          ∙ (λ i. (way.done ++ g ∷ []) ++ next_facts (e i) (λ z. cells_of z n.rest)) in
          let last : path.looked.items ≡ take k path.looked.items ++ n.looked ∷ n.rest =
          sym (take-append-drop k path.looked.items) ∙ ap (λ (ls : List (Looked C)). take k path.looked.items ++ ls) n.from_here in
          let looked : n.looked ≡ record { column = n.looked.column; led = End code } =
          λ i. record { column = n.looked.column; led = (e ∙ ap End (sym says)) i } in
          let lt : k < length path.looked.items = in_range path.looked.items k n.looked n.there in (
            (λ f m. inl (seen_more s way.done g way.seen holds f
                (⊎_elim (λ (h : Among f (way.done ++ g ∷ [])). h) (λ (h : ⊥). absurd h)
                (at_append f (way.done ++ g ∷ []) [] (subst (Among f) all m))))),
            (
              take k path.looked.items,
              n.looked.column,
              last ∙ (λ i. take k path.looked.items ++ looked i ∷ onward i),
              length-take-le k path.looked.items (omega arith),
            ),
          )
