-- What is known of the rows is known for good.
use Rattle.std.proofs.Common.{◌≡◌, ◌<◌, ℕ, List, ◌++◌, Bool, true, false, ◌||◌, length, refl, sym, ap, ◌∙◌, subst, arith}
use Rattle.g4_store.specs.declared.automaton.Fact.{Fact}
use Rattle.g4_store.specs.declared.view.View.{View}
use Rattle.g4_store.specs.Known.{AreRows, HasAllRows, KnowsRows}
use Rattle.g4_store.specs.Numbers.{Among}
use Rattle.g4_store.specs.Paths.{LearnsAll}
use Rattle.g4_store.specs.Views.{met}
use Rattle.g4_store.proofs.Lists.{among_left, among_right, at_below}

-- as many are known as before, and perhaps more
pub all_more : {C : Type 0} (most : ℕ) (known more : List (ℕ × C)) → ((t : ℕ) (y : C) → Among (t, y) known → Among (t, y) more)
    → HasAllRows most known → HasAllRows most more
all_more {C} most known more on all = record {
  rows = all.rows;
  all = all.all;
  differ = all.differ;
  are_known = λ t y e. on t y (all.are_known t y e);
}

-- where all rows were known, the contents that are known stay
pub no_more_rows : {C : Type 0} (most : ℕ) (old new : List (ℕ × C)) → HasAllRows most old
    → ((t : ℕ) (y : C) → Among (t, y) old → Among (t, y) new) → AreRows most new → (t : ℕ) (y : C) → Among (t, y) new
    → (u : ℕ) × Among (u, y) old
no_more_rows {C} most old new all on rows t y m =
    let lt : t < length all.rows = let a = rows.within t y m in let b = all.all in omega arith in
    let (z, at) = at_below all.rows t lt in
    let is : z ≡ y = rows.one t z y (on t z (all.are_known t z at)) m in
    (t, subst (λ (x : C). Among (t, x) old) is (all.are_known t z at))

-- passes that met know rows, where all that they know agrees
pub met_rows : {C : Type 0} (most : ℕ) (v w u : View C) (a b : Bool) → KnowsRows most (v, a) → KnowsRows most (w, b) → u ≡ met v w
    → AreRows most u.known → KnowsRows most (u, a || b)
met_rows {C} most v w u a b one two is are = record { are = are; all = all a b refl refl }
  where
    all : (c d : Bool) → a ≡ c → b ≡ d → c || d ≡ true → HasAllRows most u.known
    all true d e f on = subst (λ (l : List (ℕ × C)). HasAllRows most l) (sym (ap (λ (x : View C). x.known) is))
        (all_more most v.known (v.known ++ w.known) (λ t y m. among_left (t, y) v.known w.known m) (one.all e))
    all false d e f on = subst (λ (l : List (ℕ × C)). HasAllRows most l) (sym (ap (λ (x : View C). x.known) is))
        (all_more most w.known (v.known ++ w.known) (λ t y m. among_right (t, y) v.known w.known m) (two.all (f ∙ on)))

-- a pass that has learned knows rows
pub learned_rows : {C : Type 0} (most : ℕ) (facts : List (Fact C)) (old new : View C) (full : Bool) → KnowsRows most (old, full)
    → LearnsAll facts old new → AreRows most new.known → KnowsRows most (new, full)
learned_rows most facts old new full knows all are =
    record { are = are; all = λ e. all_more most old.known new.known all.learns.known_kept (knows.all e) }
