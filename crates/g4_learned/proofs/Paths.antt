-- Paths of SLL are paths of the automaton.
use Rattle.std.proofs.Common.{◌≡◌, ◌<◌, ◌+◌, ◌^◌, ℕ, suc, List, [], ◌∷◌, All, Contains, length, map, refl, sym, subst, arith}
use Rattle.std.proofs.lemmas.List.Elements.{All-head, All-tail}
use Rattle.std.proofs.lemmas.Option.{slice_get_within}
use Rattle.g4_net.specs.Configurations.{Config, IsRow, wildcard}
use Rattle.g4_net.specs.Lookahead.{Next, Start}
use Rattle.g4_net.specs.Prediction.{Judges, Path, Sll, SllFrom, Verdict, answer, error_at, sensitive}
use Rattle.g4_net.specs.Prediction as prediction
use Rattle.g4_classes.specs.Classes.{IsSymbol}
use Rattle.g4_lookahead.specs.EndOfList.{GoesOn}
use Rattle.g4_lookahead.proofs.Judging.{AreSame}
use Rattle.g4_lookahead.proofs.Settling.{Tells, begins_start, sll_tells}
use Rattle.g4_store.specs.declared.automaton.Led.{Led}
use Rattle.g4_store.specs.declared.automaton.Led.TheVariants as led
use Rattle.g4_store.specs.declared.automaton.Plan.{Plan}
use Rattle.g4_store.specs.declared.path.Path as stored
use Rattle.g4_store.specs.Paths.{IsPath, LeadsOn}
use Rattle.g4_learned.specs.Automata.{IsLed, LeadsTo, StartsAt, code_of}
use Rattle.g4_guards.specs.Levels.{AllowedAt}
use Rattle.g4_learned.specs.Stored.{IsPlan, IsStored, stored_entry}
use Rattle.g4_learned.specs.Tables.{IsStartOf, Tables, column_of}
use Rattle.g4_guards.proofs.Same.{sll_over}
use Rattle.g4_learned.proofs.Alike.{led_same, next_of_same, next_same}

-- the row of a set has its members
pub same_as_row : (row : List Config) (C : Config → Type 0) → IsRow row C → AreSame C (Contains row)
same_as_row row C is c = ((is.exactly c).1, (is.exactly c).0)

module _ (p : Plan Tables) (plan : IsPlan p) where
  -- where a symbol leads from a set, its column leads from the set's row
  pub leads_by : (row : List Config) (C : Config → Type 0) (a : ℕ) (l : Led (List Config)) → IsRow row C → IsSymbol a
      → IsLed (Next p.net.net C a) l → LeadsTo p.net row (column_of p.net a) l
  leads_by row C a l is symbol leads = record {
    some = (a, symbol, refl);
    each = λ b symbol' at.
        led_same (Next p.net.net C a) (Next p.net.net (Contains row) b)
        (λ d.
        let one = next_of_same p.net.net a C (Contains row) (same_as_row row C is) d in
        let two = next_same p.net.net a b (Contains row) ((plan.tables.columns.same a b symbol symbol').0 (sym at)) d in
        ((λ h. two.0 (one.0 h)), (λ h. one.1 (two.1 h))))
        l leads;
  }

  pub column_within : (a : ℕ) → IsSymbol a → column_of p.net a < p.columns
  column_within a symbol = subst (λ n. column_of p.net a < n) (sym plan.columns) (plan.tables.columns.within a symbol)

  -- what SLL looks at leads on
  judged_leads : (row : List Config) (C : Config → Type 0) (a k : ℕ) (Later : Verdict → List prediction.Looked → Type 0)
      → IsRow row C → IsSymbol a
      → ((v : Verdict) (more : List prediction.Looked) (next : List Config) → code_of v < 2 ^ 32 → Later v more
      → IsRow next (Next p.net.net C a) → LeadsOn StartsAt LeadsTo p next (map (stored_entry p.net) more))
      → (v : Verdict) (looked : List prediction.Looked) → code_of v < 2 ^ 32 → Judges (Next p.net.net C a) k a Later v looked
      → LeadsOn StartsAt LeadsTo p row (map (stored_entry p.net) looked)
  judged_leads row C a k Later is symbol on _ _ small (prediction.nothing_left e) =
      (column_within a symbol, leads_by row C a (led.End 0) is symbol (small, e), refl)
  judged_leads row C a k Later is symbol on _ _ small (prediction.one_left i o) =
      let code : i + 2 ≡ suc (suc i) = omega arith in (
        column_within a symbol,
        subst (λ n. LeadsTo p.net row (column_of p.net a) (led.End n)) (sym code)
            (leads_by row C a (led.End (suc (suc i))) is symbol (omega arith, o)),
        refl,
      )
  judged_leads row C a k Later is symbol on _ _ small (prediction.gives_up n c l) = (
    column_within a symbol,
    leads_by row C a (led.End 1) is symbol (small, (n, record { conflict = c; none_lone = l })),
    refl,
  )
  judged_leads row C a k Later is symbol on _ _ small (prediction.goes_on v more next e n m has later) =
      let goes : GoesOn (Next p.net.net C a) = record { some = e; several = n; clear = λ x. m x.conflict x.none_lone } in
      (column_within a symbol, leads_by row C a (led.Row next 0) is symbol (refl, goes, has), on v more next small later has)

  pub sll_leads : (row : List Config) (C : Config → Type 0) (w : List ℕ) (k : ℕ) (v : Verdict) (looked : List prediction.Looked)
      → IsRow row C → All IsSymbol w → code_of v < 2 ^ 32 → SllFrom p.net.net C w k v looked
      → LeadsOn StartsAt LeadsTo p row (map (stored_entry p.net) looked)
  sll_leads row C [] k v looked is symbols small h = absurd h
  sll_leads row C (a ∷ w) k v looked is symbols small h =
      judged_leads row C a k (SllFrom p.net.net (Next p.net.net C a) w (suc k)) is (All-head IsSymbol a w symbols)
      (λ u more next small' later has.
      sll_leads next (Next p.net.net C a) w (suc k) u more has (All-tail IsSymbol a w symbols) small' later)
      v looked small h

  -- the verdicts of a decision have codes
  pub has_code : (d : ℕ) (A : ℕ → Type 0) (w : List ℕ) (v : Verdict) (path : Path) → Sll p.net.net d A w v path → code_of v < 2 ^ 32
  has_code d A w v path h = small v
      (sll_tells p.net.net d (Start p.net.net d A wildcard) (begins_start p.net.net d A wildcard) w 0 (length w) (omega arith) v path.looked
      h.1)
    where
      small : (v : Verdict) → Tells p.net.net d (length w) v → code_of v < 2 ^ 32
      small (answer i) (t, (targets, n, at, first, is)) =
          let few = plan.tables.few d targets at in
          let within = slice_get_within targets n t first in
          omega arith
      small (error_at k) tells = omega arith
      small (sensitive k) tells = omega arith

  -- SLL's path begins at the start of its decision at the condition, and leads on
  pub sll_is_way : (d condition i : ℕ) (w : List ℕ) (v : Verdict) (path : Path) → All IsSymbol w
      → Sll p.net.net d (AllowedAt p.net.net d condition) w v path → IsStartOf p.net d condition i
      → StartsAt p.net i path.start × LeadsOn StartsAt LeadsTo p path.start (map (stored_entry p.net) path.looked)
  sll_is_way d condition i w v path symbols sll (guard, at, guards) =
      let C = Start p.net.net d (AllowedAt p.net.net d guard) wildcard in
      let here = sll_over p.net.net d (AllowedAt p.net.net d condition) (AllowedAt p.net.net d guard) (λ j t first. (guards.same j).1)
      (λ j t first. (guards.same j).0) w v path sll in
      let small = has_code d (AllowedAt p.net.net d condition) w v path sll in (
        (d, guard, at, here.0),
        sll_leads path.start C w 0 v path.looked here.0 symbols small here.1,
      )

  -- a path that is stored is a path of the automaton
  pub stored_is_path : (d condition : ℕ) (w : List ℕ) (v : Verdict) (path : Path) (q : stored.Path (List Config)) → All IsSymbol w
      → Sll p.net.net d (AllowedAt p.net.net d condition) w v path → IsStored p.net d condition path q → IsPath StartsAt LeadsTo p q
  stored_is_path d condition w v path q symbols sll is =
      let way = sll_is_way d condition q.start w v path symbols sll is.start in
      let (guard, at, guards) = is.start in
      let within = slice_get_within p.net.starts q.start (d, guard) at in (
        subst (λ n. q.start < n) (sym plan.starts) within,
        subst (λ (row : List Config). StartsAt p.net q.start row) (sym is.content) way.0,
        subst (λ (x : List Config). LeadsOn StartsAt LeadsTo p x q.looked.items) (sym is.content)
            (subst (LeadsOn StartsAt LeadsTo p path.start) (sym is.looked) way.1),
      )
