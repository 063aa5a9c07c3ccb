-- The tally of a closed store: what stands in it is what the runs pass, unless there was want of room.
use Rattle.std.proofs.Common.{◌≡◌, ◌↔◌, ℕ, zero, suc, inl, inr, List, ◌∷◌, false, length, ap, arith, refl, subst, sym, ◌∙◌}
use mathlib.Core.Option.{some}
use lib.ListN.{get_elem?}
use Rattle.g4_net.specs.Configurations.{Config}
use Rattle.g4_run.specs.Running.{RunOver}
use Rattle.g4_store.specs.declared.automaton.Fact.{Fact}
use Rattle.g4_store.specs.declared.automaton.Plan.{Plan}
use Rattle.g4_store.specs.Closing.{Closes}
use Rattle.g4_store.specs.Numbers.{Among}
use Rattle.g4_store.specs.Views.{IsWhole}
use Rattle.g4_store.specs.Words.{Stands}
use Rattle.g4_decide.specs.Asked.{Told}
use Rattle.g4_learned.specs.Automata.{LeadsTo, StartsAt}
use Rattle.g4_learned.specs.Stored.{IsPlan}
use Rattle.g4_learned.specs.Tables.{Tables}
use Rattle.g4_tally.specs.Counts.{AreFilled, IsEdgeOf, IsRowOf}
use Rattle.g4_tally.specs.declared.counts.Counts.{Counts}
use Rattle.g4_tally.specs.Passed.{HasPassed, HaveSymbols, IsPassedBy, IsShort}
use Rattle.g4_tally.specs.Passing.{IsPassedRow}
use Rattle.g4_tally.specs.Sizes.{HasMore, IsOnce}
use Rattle.g4_tally.specs.Tallies.{AreCounts}
use Rattle.g4_tally.proofs.Counting.{rows_size}
use Rattle.g4_tally.proofs.Passing.{edges_are, row_in, rows_are}
use Rattle.g4_tally.proofs.Sizes.{among_is_at, one_size, same_size}

module _ {C : Type 0} (One Other : Fact C → Type 0) (same : (f : Fact C) → One f ↔ Other f) where
  same_rows : (y : C) → IsRowOf One y ↔ IsRowOf Other y
  same_rows y = (λ h. (h.0, (same h.0).0 h.1, h.2), λ h. (h.0, (same h.0).1 h.1, h.2))

  same_edges : (edge : C × ℕ) → IsEdgeOf One edge ↔ IsEdgeOf Other edge
  same_edges edge = (λ h. (h.0, (same _).0 h.1), λ h. (h.0, (same _).1 h.1))

module _ (p : Plan Tables) (plan : IsPlan p) (pass : Told) (whole : IsWhole pass.0) (words : List ℕ) (rows : List (List Config))
    (closes : Closes StartsAt LeadsTo p pass.0 words rows) (runs : List RunOver) (symbols : HaveSymbols runs)
    (passed : HasPassed p runs pass) where
  abbrev Filled : Fact (List Config) → Type 0
  Filled = Stands p words rows

  abbrev Passed : Fact (List Config) → Type 0
  Passed = IsPassedBy p.net runs

  filled_is_passed : (f : Fact (List Config)) → Filled f → Passed f
  filled_is_passed f stands = passed.teaches f (closes.whole whole f stands)

  -- ---- with room

  pub counts_are : pass.1 ≡ false → (counts : Counts) → AreFilled Filled counts → AreCounts p.rows p.net.net runs counts
  counts_are room counts are = record {
    sets = same_size (IsRowOf Passed) (IsPassedRow p.net.net runs) counts.rows (rows_are p.net plan.tables runs symbols)
        (same_size (IsRowOf Filled) (IsRowOf Passed) counts.rows (same_rows Filled Passed same) are.rows);
    edges = edges_are p.net plan.tables runs symbols counts.edges
        (same_size (IsEdgeOf Filled) (IsEdgeOf Passed) counts.edges (same_edges Filled Passed same) are.edges);
    fits =
        let count = one_size (IsRowOf Filled) counts.rows (length rows) are.rows (rows_size StartsAt LeadsTo p pass.0 words rows closes) in
        let fits = closes.shows.fits in
        omega (arith, count, fits);
  }
    where
      same : (f : Fact (List Config)) → Filled f ↔ Passed f
      same f = (filled_is_passed f, λ is. closes.seen f (passed.whole room f is))

  -- ---- without room

  -- each row that is known is passed
  known_is_passed : (t : ℕ) (y : List Config) → Among (t, y) pass.0.known → IsPassedRow p.net.net runs y
  known_is_passed t y known =
      let named = closes.named t y (closes.known t y known) in
      (rows_are p.net plan.tables runs symbols y).0 (named.by, filled_is_passed named.by named.stands, named.of)

  pub has_more : IsShort p runs pass → HasMore (IsPassedRow p.net.net runs) p.rows
  has_more short = record {
    items = short.row ∷ all;
    only = only;
    once = once;
    more = omega (arith, short.all.all);
  }
    where
      all : List (List Config)
      all = short.all.rows

      only : (y : List Config) → Among y (short.row ∷ all) → IsPassedRow p.net.net runs y
      only y (inl is) = subst (IsPassedRow p.net.net runs) (sym is)
          (row_in p.net plan.tables runs symbols short.row short.passed.0 short.passed.1 short.passed.2)
      only y (inr among) =
          let at = among_is_at all y among in
          known_is_passed at.0 y (short.known at.0 y (short.all.are_known at.0 y at.1))

      -- the row that is missing is at no place
      missing : (t : ℕ) → get_elem? all t ≡ some short.row → ⊥
      missing t at = short.missing (t, short.all.are_known t short.row at)

      once : IsOnce (short.row ∷ all)
      once zero zero y here there = refl
      once zero (suc j) y here there = absurd (missing j (there ∙ sym here))
      once (suc i) zero y here there = absurd (missing i (here ∙ sym there))
      once (suc i) (suc j) y here there = ap suc (short.all.differ i j y here there)
