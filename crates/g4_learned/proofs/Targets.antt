-- What one load tells, and steps as they are learned.
use Rattle.std.proofs.Common.{◌≡◌, ◌<◌, ◌+◌, ◌^◌, ℕ, List, [], ◌∷◌, Option, Some, None, Contains, length, map, refl, sym, ◌∙◌, ap, subst, inl, arith}
use Rattle.std.proofs.lemmas.Option.{slice_get_within}
use Rattle.g4_classes.specs.Classes.{IsSymbol}
use Rattle.g4_guards.specs.Levels.{AllowedAt}
use Rattle.g4_lookahead.proofs.Judging.{row_of_set}
use Rattle.g4_learned.proofs.Alike.{guard_same, same_back}
use Rattle.g4_learned.proofs.Paths.{column_within, leads_by}
use Rattle.g4_learned.specs.Automata.{IsLed, LeadsTo, StartsAt, verdict_at}
use Rattle.g4_learned.specs.Stored.{IsPlan, IsStored, stored_entry}
use Rattle.g4_learned.specs.Tables.{IsStartOf, Tables, column_of}
use Rattle.g4_learned.specs.Walks.{Begins, Finds}
use Rattle.g4_learned.specs.declared.target.Target.TheVariants.{Ended, NotLearned}
use Rattle.g4_learned.specs.declared.target.Target.TheVariants as target
use Rattle.g4_net.specs.Configurations.{Config, IsRow, wildcard}
use Rattle.g4_net.specs.Lookahead.{Next, Start}
use Rattle.g4_net.specs.Prediction as said
use Rattle.g4_predict.specs.declared.verdict.Verdict.{Verdict}
use Rattle.g4_predict.specs.Paths.{verdict_of}
use Rattle.g4_store.proofs.Walking.{keeps_looked, keeps_saw, saw_first, saw_none}
use Rattle.g4_store.specs.declared.automaton.Fact.{Fact}
use Rattle.g4_store.specs.declared.automaton.Fact.TheVariants.{Cell}
use Rattle.g4_store.specs.declared.automaton.Fact.TheVariants as fact
use Rattle.g4_store.specs.declared.automaton.Led.{Led}
use Rattle.g4_store.specs.declared.automaton.Led.TheVariants.{End, Row}
use Rattle.g4_store.specs.declared.automaton.Plan.{Plan}
use Rattle.g4_store.specs.declared.board.Found.{Found}
use Rattle.g4_store.specs.declared.board.Found.TheVariants as found
use Rattle.g4_store.specs.declared.path.Looked.{Looked}
use Rattle.g4_store.specs.declared.path.Path as stored
use Rattle.g4_store.specs.declared.view.View.{View}
use Rattle.g4_store.specs.Found.{CellFound, StartFound}
use Rattle.g4_store.specs.Numbers.{Among}
use Rattle.g4_store.specs.Paths.{IsPath, LeadsOn, cells_of, facts_of}
use Rattle.g4_store.specs.Walks.{Keeps}
use Rattle.g4_store.specs.Words.{cell_at, end_word, row_word}

-- what the load of a cell tells
module _ (p : Plan Tables) (row : ℕ) (y : List Config) (a s : ℕ) (column : s ≡ column_of p.net a) (old new : View (List Config)) where
  abbrev FindsCell : Found → Type 0
  FindsCell f = CellFound StartsAt LeadsTo p row y s old new f

  cell_here : (f : Found) → FindsCell f → CellFound StartsAt LeadsTo p row y (column_of p.net a) old new f
  cell_here f h = subst (λ (n : ℕ). CellFound StartsAt LeadsTo p row y n old new f) column h

  pub finds_nothing : (k : ℕ) → FindsCell found.Nothing → Finds p.net y a k old new NotLearned
  finds_nothing k h =
      let (is, none) = cell_here found.Nothing h in (none, saw_none old new (ap (λ (v : View (List Config)). v.seen) is))

  pub finds_row : (k t mark : ℕ) → FindsCell (found.Row t mark) → Finds p.net y a k old new (target.Row t)
  finds_row k t mark h =
      let (less, (z, leads, is)) = cell_here (found.Row t mark) h in (
        z,
        mark,
        leads,
        subst (λ (v : View (List Config)). Among (t, z) v.known) (sym is) (inl refl),
        saw_first (Cell y (column_of p.net a) (Row z mark)) old new (ap (λ (v : View (List Config)). v.seen) is),
      )

  pub finds_end : (k code : ℕ) (v : Verdict) → verdict_of v ≡ verdict_at code k → FindsCell (found.End code)
      → Finds p.net y a k old new (Ended v)
  finds_end k code v same h =
      let (leads, is) = cell_here (found.End code) h in (
        code,
        same,
        leads,
        saw_first (Cell y (column_of p.net a) (End code)) old new (ap (λ (v : View (List Config)). v.seen) is),
      )

  pub small_end : (code : ℕ) → IsSymbol a → FindsCell (found.End code) → code < 2 ^ 32
  small_end code symbol h = let (leads, is) = cell_here (found.End code) h in (leads.each a symbol refl).0

  pub keeps_nothing : FindsCell found.Nothing → Keeps old new
  keeps_nothing h = keeps_looked (cell_at p row s) 0 old new h.0

  pub keeps_row : (t mark : ℕ) → FindsCell (found.Row t mark) → Keeps old new
  keeps_row t mark (less, (z, leads, is)) = keeps_saw (cell_at p row s) (row_word t mark) (Cell y s (Row z mark)) ((t, z) ∷ []) old new is

  pub keeps_end : (code : ℕ) → FindsCell (found.End code) → Keeps old new
  keeps_end code h = keeps_saw (cell_at p row s) (end_word code) (Cell y s (End code)) [] old new h.1

-- what the load of a start tells
pub begins_so : (p : Plan Tables) (d condition i : ℕ) (old new : View (List Config)) (one : (j : ℕ) → IsStartOf p.net d condition j → i ≡ j)
    → IsStartOf p.net d condition i → (r : Option ℕ) → StartFound StartsAt LeadsTo p i old new r → Begins p.net d condition old new r
begins_so p d condition i old new one start None (is, none) = (
  (λ j other. subst (λ (n : ℕ). (y : List Config) → Among (fact.Start n y) old.seen → ⊥) (one j other) none),
  saw_none old new (ap (λ (v : View (List Config)). v.seen) is),
)
begins_so p d condition i old new one start (Some t) (less, (y, starts, is)) = (
  i,
  start,
  (
    y,
    starts,
    subst (λ (v : View (List Config)). Among (t, y) v.known) (sym is) (inl refl),
    saw_first (fact.Start i y) old new (ap (λ (v : View (List Config)). v.seen) is),
  ),
)

-- a step is learned as a path of one cell
module _ (p : Plan Tables) (plan : IsPlan p) where
  pub step_leads : (row : List Config) (a : ℕ) (l : Led (List Config)) → IsRow row (Contains row) → IsSymbol a
      → IsLed (Next p.net.net (Contains row) a) l
      → LeadsOn StartsAt LeadsTo p row (record { column = column_of p.net a; led = l } ∷ [])
  step_leads row a (Row y mark) is symbol led =
      (column_within p plan a symbol, leads_by p plan row (Contains row) a (Row y mark) is symbol led, tt)
  step_leads row a (End code) is symbol led =
      (column_within p plan a symbol, leads_by p plan row (Contains row) a (End code) is symbol led, refl)

  pub step_cells : (row : List Config) (column : ℕ) (l : Led (List Config))
      → cells_of row (record { column = column; led = l } ∷ []) ≡ Cell row column l ∷ []
  step_cells row column (Row y mark) = refl
  step_cells row column (End code) = refl

  -- and a start as one of none
  pub start_is_path : (d condition : ℕ) (path : said.Path) (q : stored.Path (List Config)) → path.looked ≡ []
      → IsRow path.start (Start p.net.net d (AllowedAt p.net.net d condition) wildcard) → IsStored p.net d condition path q
      → IsPath StartsAt LeadsTo p q
  start_is_path d condition path q none is stored =
      let (guard, at, guards) = stored.start in
      let within = slice_get_within p.net.starts q.start (d, guard) at in
      let items : q.looked.items ≡ [] = stored.looked ∙ ap (map (stored_entry p.net)) none in
      let here : IsRow q.content (Start p.net.net d (AllowedAt p.net.net d guard) wildcard) =
      subst (λ (row : List Config). IsRow row (Start p.net.net d (AllowedAt p.net.net d guard) wildcard)) (sym stored.content)
      (row_of_set path.start (Start p.net.net d (AllowedAt p.net.net d condition) wildcard)
      (Start p.net.net d (AllowedAt p.net.net d guard) wildcard)
      (same_back (Start p.net.net d (AllowedAt p.net.net d guard) wildcard)
      (Start p.net.net d (AllowedAt p.net.net d condition) wildcard) (guard_same p.net.net d condition guard guards)) is) in (
        subst (λ (n : ℕ). q.start < n) (sym plan.starts) within,
        (d, guard, at, here),
        subst (LeadsOn StartsAt LeadsTo p q.content) (sym items) tt,
      )

  pub start_facts : (d condition : ℕ) (path : said.Path) (q : stored.Path (List Config)) → path.looked ≡ []
      → IsStored p.net d condition path q → facts_of q ≡ fact.Start q.start path.start ∷ []
  start_facts d condition path q none stored =
      let items : q.looked.items ≡ [] = stored.looked ∙ ap (map (stored_entry p.net)) none in
      ap (λ (ls : List (Looked (List Config))). fact.Start q.start q.content ∷ cells_of q.content ls) items
      ∙ ap (λ (x : List Config). fact.Start q.start x ∷ []) stored.content
