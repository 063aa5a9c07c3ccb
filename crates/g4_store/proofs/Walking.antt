-- A walk, a column at a time.
use Rattle.std.proofs.Common.{◌≡◌, ℕ, ◌+◌, ◌<◌, List, [], ◌∷◌, ◌++◌, length, take, get_or, None, zero, suc, refl, sym, ap, ◌∙◌, subst, inl, inr, ⊎_elim}
use Rattle.g4_store.specs.declared.automaton.Led.{Led}
use Rattle.g4_store.specs.declared.automaton.Led.TheVariants.{Row}
use Rattle.g4_store.specs.declared.automaton.Fact.{Fact}
use Rattle.g4_store.specs.declared.automaton.Fact.TheVariants.{Start, Cell}
use Rattle.g4_store.specs.declared.automaton.Plan.{Plan}
use Rattle.g4_store.specs.declared.view.View.{View}
use Rattle.g4_store.specs.Numbers.{Among}
use Rattle.g4_store.specs.Views.{saw, looked}
use Rattle.g4_store.specs.Found.{StartFound, CellFound}
use Rattle.g4_store.specs.Walks.{Along, SawAlso, Keeps, Came, Walked}
use Rattle.g4_store.specs.Walks.Along.{here, onward}
use Rattle.g4_store.specs.declared.walk.Walk.TheVariants.{NotLearned}
use Rattle.g4_store.specs.declared.board.Found.TheVariants as found
use Rattle.g4_store.proofs.Lists.{take_snoc, get_or_there, at_append, among_left, among_right}

module _ {C : Type 0} where
  pub saw_none : (old new : View C) → new.seen ≡ old.seen → SawAlso [] old new
  saw_none old new e = λ g. (
    (λ m. inl (subst (λ (l : List (Fact C)). Among g l) e m)),
    (λ m. subst (λ (l : List (Fact C)). Among g l) (sym e) (⊎_elim (λ (x : Among g old.seen). x) (λ (x : ⊥). absurd x) m)),
  )

  pub saw_same : (fs : List (Fact C)) (old mid new : View C) → SawAlso fs old mid → new.seen ≡ mid.seen → SawAlso fs old new
  saw_same fs old mid new h e = λ g. (
    (λ m. (h g).0 (subst (λ (l : List (Fact C)). Among g l) e m)),
    (λ m. subst (λ (l : List (Fact C)). Among g l) (sym e) ((h g).1 m)),
  )

  pub saw_next : (fs : List (Fact C)) (f : Fact C) (old mid new : View C) → SawAlso fs old mid → new.seen ≡ f ∷ mid.seen
      → SawAlso (fs ++ f ∷ []) old new
  saw_next fs f old mid new h e = λ g. (
    (λ m. ⊎_elim
        (λ (x : g ≡ f). inr (among_right g fs (f ∷ []) (inl x)))
        (λ (x : Among g mid.seen). ⊎_elim (λ (q : Among g old.seen). inl q) (λ (q : Among g fs). inr (among_left g fs (f ∷ []) q))
        ((h g).0 x))
        (subst (λ (l : List (Fact C)). Among g l) e m)),
    (λ m. subst (λ (l : List (Fact C)). Among g l) (sym e) (⊎_elim
        (λ (x : Among g old.seen). inr ((h g).1 (inl x)))
        (λ (x : Among g (fs ++ f ∷ [])). ⊎_elim (λ (q : Among g fs). inr ((h g).1 (inr q)))
        (λ (q : Among g (f ∷ [])). ⊎_elim (λ (z : g ≡ f). inl z) (λ (z : ⊥). absurd z) q) (at_append g fs (f ∷ []) x))
        m)),
  )

  pub saw_first : (f : Fact C) (old new : View C) → new.seen ≡ f ∷ old.seen → SawAlso (f ∷ []) old new
  saw_first f old new e = saw_next [] f old old new (saw_none old old refl) e

  -- what a load leaves as it is
  pub keeps_looked : (i n : ℕ) (old new : View C) → new ≡ looked i n old → Keeps old new
  keeps_looked i n old new e = record {
    taught = ap (λ (v : View C). v.taught) e;
    holds = ap (λ (v : View C). v.holds) e;
    count = ap (λ (v : View C). v.count) e;
    known = λ t y m. subst (λ (v : View C). Among (t, y) v.known) (sym e) m;
  }

  pub keeps_saw : (i n : ℕ) (f : Fact C) (told : List (ℕ × C)) (old new : View C) → new ≡ looked i n (saw f told old) → Keeps old new
  keeps_saw i n f told old new e = record {
    taught = ap (λ (v : View C). v.taught) e;
    holds = ap (λ (v : View C). v.holds) e;
    count = ap (λ (v : View C). v.count) e;
    known = λ t y m. subst (λ (v : View C). Among (t, y) v.known) (sym e) (among_right (t, y) told old.known m);
  }

  pub keeps_on : (old mid new : View C) → Keeps old mid → Keeps mid new → Keeps old new
  keeps_on old mid new a b = record {
    taught = b.taught ∙ a.taught;
    holds = b.holds ∙ a.holds;
    count = b.count ∙ a.count;
    known = λ t y m. b.known t y (a.known t y m);
  }

module _ {N C : Type 0} (starts : N → ℕ → C → Type 0) (leads : N → C → ℕ → Led C → Type 0) where
  -- a walk that ends where the word that was read held 0
  pub stops_at_start : (p : Plan N) (i : ℕ) (columns : List ℕ) (old new : View C) → StartFound starts leads p i old new None
      → Walked starts leads p i columns old new (NotLearned zero)
  stops_at_start p i columns old new f = (
    f.1,
    saw_none old new (ap (λ (v : View C). v.seen) f.0),
    (ap (λ (v : View C). v.looks.word) f.0, ap (λ (v : View C). v.looks.found) f.0),
  )

  pub stops_at_cell : (p : Plan N) (i : ℕ) (columns : List ℕ) (k row : ℕ) (old mid new : View C) (y : C) (fs : List (Fact C))
      → k < length columns → Came starts leads p i columns k old y fs → SawAlso fs old mid → Among (row, y) mid.known
      → CellFound starts leads p row y (get_or columns k 0) mid new found.Nothing
      → Walked starts leads p i columns old new (NotLearned (suc k))
  stops_at_cell p i columns k row old mid new y fs lt came saw known f =
      let seen : new.seen ≡ mid.seen = ap (λ (v : View C). v.seen) f.0 in (
        y,
        fs,
        lt,
        came,
        (λ led m. f.1 led (subst (λ (l : List (Fact C)). Among (Cell y (get_or columns k 0) led) l) seen m)),
        saw_same fs old mid new saw seen,
        (
          row,
          subst (λ (v : View C). Among (row, y) v.known) (sym f.0) known,
          (ap (λ (v : View C). v.looks.word) f.0, ap (λ (v : View C). v.looks.found) f.0),
        ),
      )

  pub came_first : (p : Plan N) (i : ℕ) (columns : List ℕ) (old : View C) (y : C) → starts p.net i y
      → Came starts leads p i columns 0 old y (Start i y ∷ [])
  came_first p i columns old y s = record { first = y; starts_so = s; on = []; along = here; facts = refl }

  pub came_next : (p : Plan N) (i : ℕ) (columns : List ℕ) (k : ℕ) (old : View C) (y z : C) (mark : ℕ) (fs : List (Fact C))
      → k < length columns → Came starts leads p i columns k old y fs → leads p.net y (get_or columns k 0) (Row z mark)
      → Came starts leads p i columns (k + 1) old z (fs ++ Cell y (get_or columns k 0) (Row z mark) ∷ [])
  came_next p i columns k old y z mark fs lt h l =
      let s = get_or columns k 0 in
      record {
        first = h.first;
        starts_so = h.starts_so;
        on = h.on ++ Cell y s (Row z mark) ∷ [];
        along = subst (λ (ss : List ℕ). Along leads p.net h.first ss (h.on ++ Cell y s (Row z mark) ∷ []) z)
            (sym (take_snoc columns k s (get_or_there columns k 0 lt))) (onward (take k columns) h.on y s z mark h.along l);
        facts = ap (λ (l : List (Fact C)). l ++ Cell y s (Row z mark) ∷ []) h.facts;
      }
