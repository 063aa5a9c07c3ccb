-- How far a path was gone along: what is closed, and which contents are rows.
use Rattle.std.proofs.Common.{◌≡◌, ◌⊎◌, ℕ, ◌+◌, ◌<◌, List, [], ◌∷◌, ◌++◌, length, drop, get_or, refl, sym, ap, ◌∙◌, subst, inl, inr, ⊎_elim, arith, append_assoc}
use Rattle.std.proofs.lemmas.List.{drop_more}
use lib.Seq.{drop-length}
use Rattle.g4_store.specs.declared.automaton.Led.{Led}
use Rattle.g4_store.specs.declared.automaton.Led.TheVariants.{Row, End}
use Rattle.g4_store.specs.declared.automaton.Fact.{Fact}
use Rattle.g4_store.specs.declared.automaton.Fact.TheVariants.{Start, Cell}
use Rattle.g4_store.specs.declared.path.Looked.{Looked}
use Rattle.g4_store.specs.declared.path.Path.{Path}
use Rattle.g4_store.specs.Numbers.{Among}
use Rattle.g4_store.specs.Paths.{InRows, Onward, Next, LeadsOn, IsPath, facts_of, cells_of, next_facts}
use Rattle.g4_core.specs.declared.event.Slot.{Slot}
use Rattle.g4_core.specs.States.{State, with_target, targets_of, contents_of}
use Rattle.g4_core.specs.Steps.{IsClosed, IsOpen, IsSlot, IsFirst, NextCell}
use Rattle.g4_core.specs.Stepping.{after}
use Rattle.g4_core.proofs.Lists.{at_append, among_left}

module _ {A : Type 0} where
  -- one item more
  pub one_more : (P : A → Type 0) (done : List A) (g : A) → ((f : A) → Among f done → P f) → P g
      → (f : A) → Among f (done ++ g ∷ []) → P f
  one_more P done g all here f m =
      ⊎_elim
      (λ (h : Among f done). all f h)
      (λ (h : Among f (g ∷ [])). ⊎_elim (λ (e : f ≡ g). subst P (sym e) here) (λ (b : ⊥). absurd b) h)
      (at_append f done (g ∷ []) m)

  pub from_here : (l : List A) (at : ℕ) (a : A) → at < length l → a ≡ get_or l at a → drop at l ≡ a ∷ drop (at + 1) l
  from_here l at a lt e = drop_more l at a lt ∙ ap (λ (x : A). x ∷ drop (at + 1) l) (sym e)

module _ {N C : Type 0} (starts : N → ℕ → C → Type 0) (leads : N → C → ℕ → Led C → Type 0) where
  -- the start and the cells before these are closed
  pub record Walked (s : State N C) (path : Path C) (x : C) (rest : List (Looked C)) : Type 0 where
    pub done : List (Fact C)
    pub split : facts_of path ≡ done ++ cells_of x rest
    pub onward : LeadsOn starts leads s.plan x rest
    pub closed : (f : Fact C) → Among f done → IsClosed s f

  pub walk_begins : (s : State N C) (path : Path C) → IsPath starts leads s.plan path
      → IsClosed s (Start path.start path.content) → Walked s path path.content path.looked.items
  walk_begins s path valid here =
      record {
        done = Start path.start path.content ∷ [];
        split = refl;
        onward = valid.2;
        closed = one_more (IsClosed s) [] (Start path.start path.content) (λ f m. absurd m) here;
      }

  pub first_open : (s : State N C) (path : Path C) (slot : Slot) → IsOpen s (Start path.start path.content)
      → IsSlot s (Start path.start path.content) slot → (f : Fact C) × NextCell s path f × IsSlot s f slot
  first_open s path slot here is = (
    Start path.start path.content,
    record { front = []; rest = cells_of path.content path.looked.items; split = refl; before = λ z m. absurd m; here = here },
    is,
  )

  module _ (s : State N C) (path : Path C) (x : C) (at : ℕ) (l : Looked C)
      (walked : Walked s path x (drop at path.looked.items)) (from : drop at path.looked.items ≡ l ∷ drop (at + 1) path.looked.items) where
    here : Walked s path x (l ∷ drop (at + 1) path.looked.items)
    here = subst (Walked s path x) from walked

    pub walk_right : (l.column < s.plan.columns) × leads s.plan.net x l.column l.led
    walk_right = let h = here.onward in (h.0, h.1)

    pub walk_opens : (slot : Slot) → IsOpen s (Cell x l.column l.led) → IsSlot s (Cell x l.column l.led) slot
        → (f : Fact C) × NextCell s path f × IsSlot s f slot
    walk_opens slot open_here is = (
      Cell x l.column l.led,
      record {
        front = here.done;
        rest = next_facts l.led (λ y. cells_of y (drop (at + 1) path.looked.items));
        split = here.split;
        before = here.closed;
        here = open_here;
      },
      is,
    )

    pub walk_on : IsClosed s (Cell x l.column l.led) → Walked s path (after l.led x) (drop (at + 1) path.looked.items)
    walk_on closed = go l.led refl here.onward.2
      where
        rest : List (Looked C)
        rest = drop (at + 1) path.looked.items

        split : facts_of path ≡ (here.done ++ Cell x l.column l.led ∷ []) ++ next_facts l.led (λ y. cells_of y rest)
        split = here.split ∙ sym (append_assoc here.done (Cell x l.column l.led ∷ []) (next_facts l.led (λ y. cells_of y rest)))

        all : (f : Fact C) → Among f (here.done ++ Cell x l.column l.led ∷ []) → IsClosed s f
        all = one_more (IsClosed s) here.done (Cell x l.column l.led) here.closed closed

        go : (led : Led C) → l.led ≡ led → Next starts leads led (λ y. LeadsOn starts leads s.plan y rest) (rest ≡ [])
            → Walked s path (after led x) rest
        go (Row y mark) e n =
            record {
              done = here.done ++ Cell x l.column l.led ∷ [];
              split = split ∙ ap (λ (led : Led C). (here.done ++ Cell x l.column l.led ∷ []) ++ next_facts led (λ z. cells_of z rest)) e;
              onward = n;
              closed = all;
            }
        go (End code) e n =
            record {
              done = here.done ++ Cell x l.column l.led ∷ [];
              split = split
                  ∙ ap (λ (led : Led C). (here.done ++ Cell x l.column l.led ∷ []) ++ next_facts led (λ z. cells_of z rest)) e
                  ∙ ap (λ (ls : List (Looked C)). (here.done ++ Cell x l.column l.led ∷ []) ++ cells_of x ls) (sym n);
              onward = subst (LeadsOn starts leads s.plan x) (sym n) tt;
              closed = all;
            }

  pub walk_ends : (s : State N C) (path : Path C) (x : C) (at : ℕ) → at ≡ length path.looked.items
      → Walked s path x (drop at path.looked.items) → (f : Fact C) → Among f (facts_of path) → IsClosed s f
  walk_ends s path x at e walked f m =
      let none : drop at path.looked.items ≡ [] =
      ap (λ (n : ℕ). drop n path.looked.items) e ∙ drop-length path.looked.items in
      let w : Walked s path x [] = subst (Walked s path x) none walked in
      ⊎_elim (λ (h : Among f w.done). w.closed f h) (λ (h : ⊥). absurd h) (at_append f w.done [] (subst (Among f) w.split m))

module _ {C : Type 0} where
  -- the contents before these are rows
  pub record Listed (rows : List C) (path : Path C) (rest : List (Looked C)) : Type 0 where
    pub front : List C
    pub split : contents_of path ≡ front ++ targets_of rest
    pub found : (y : C) → Among y front → InRows rows y

  pub list_begins : (rows : List C) (path : Path C) → InRows rows path.content → Listed rows path path.looked.items
  list_begins rows path here =
      record {
        front = path.content ∷ [];
        split = refl;
        found = one_more (InRows rows) [] path.content (λ f m. absurd m) here;
      }

  pub first_missing : (rows : List C) (path : Path C) → (InRows rows path.content → ⊥)
      → IsFirst (InRows rows) (λ z. InRows rows z → ⊥) (contents_of path) path.content
  first_missing rows path none =
      record { front = []; rest = targets_of path.looked.items; split = refl; before = λ z m. absurd m; here = none }

  module _ (rows : List C) (path : Path C) (at : ℕ) (l : Looked C) (listed : Listed rows path (drop at path.looked.items))
      (from : drop at path.looked.items ≡ l ∷ drop (at + 1) path.looked.items) where
    now : Listed rows path (l ∷ drop (at + 1) path.looked.items)
    now = subst (Listed rows path) from listed

    pub list_missing : (y : C) (mark : ℕ) → l.led ≡ Row y mark → (InRows rows y → ⊥)
        → IsFirst (InRows rows) (λ z. InRows rows z → ⊥) (contents_of path) y
    list_missing y mark e none =
        record {
          front = now.front;
          rest = targets_of (drop (at + 1) path.looked.items);
          split = now.split
              ∙ ap (λ (led : Led C). now.front ++ with_target led (targets_of (drop (at + 1) path.looked.items))) e;
          before = now.found;
          here = none;
        }

    pub list_row : (y : C) (mark : ℕ) → l.led ≡ Row y mark → InRows rows y → Listed rows path (drop (at + 1) path.looked.items)
    list_row y mark e here =
        record {
          front = now.front ++ y ∷ [];
          split = now.split
              ∙ ap (λ (led : Led C). now.front ++ with_target led (targets_of (drop (at + 1) path.looked.items))) e
              ∙ sym (append_assoc now.front (y ∷ []) (targets_of (drop (at + 1) path.looked.items)));
          found = one_more (InRows rows) now.front y now.found here;
        }

    pub list_end : (code : ℕ) → l.led ≡ End code → Listed rows path (drop (at + 1) path.looked.items)
    list_end code e =
        record {
          front = now.front;
          split = now.split
              ∙ ap (λ (led : Led C). now.front ++ with_target led (targets_of (drop (at + 1) path.looked.items))) e;
          found = now.found;
        }

  pub list_on : (rows : List C) (path : Path C) (at : ℕ) (l : Looked C) → Listed rows path (drop at path.looked.items)
      → drop at path.looked.items ≡ l ∷ drop (at + 1) path.looked.items → Onward l.led (InRows rows)
      → Listed rows path (drop (at + 1) path.looked.items)
  list_on rows path at l listed from h = go l.led refl h
    where
      go : (led : Led C) → l.led ≡ led → Onward led (InRows rows) → Listed rows path (drop (at + 1) path.looked.items)
      go (Row y mark) e h = list_row rows path at l listed from y mark e h
      go (End code) e h = list_end rows path at l listed from code e

  pub list_ends : (rows : List C) (path : Path C) (at : ℕ) → at ≡ length path.looked.items
      → Listed rows path (drop at path.looked.items) → (y : C) → Among y (contents_of path) → InRows rows y
  list_ends rows path at e listed y m =
      let none : drop at path.looked.items ≡ [] =
      ap (λ (n : ℕ). drop n path.looked.items) e ∙ drop-length path.looked.items in
      let w : Listed rows path [] = subst (Listed rows path) none listed in
      ⊎_elim (λ (h : Among y w.front). w.found y h) (λ (h : ⊥). absurd h) (at_append y w.front [] (subst (Among y) w.split m))
