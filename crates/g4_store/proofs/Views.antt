-- The views of a state when one of them changes.
use Rattle.std.proofs.Common.{◌≡◌, ◌≢◌, ℕ, List, [], ◌∷◌, ◌++◌, length, set, true, false, sym, ap, ◌∙◌, subst, ⊎_elim}
use native.Mathlib.Decide.{ℕ_discrete}
use mathlib.Core.Option.{some, some-injective}
use lib.ListN.{get_elem?}
use Rattle.atomic_table.proofs.Lists.{at_set, set_else, at_longer}
use Rattle.g4_store.specs.declared.automaton.Fact.{Fact}
use Rattle.g4_store.specs.declared.automaton.Plan.{Plan}
use Rattle.g4_store.specs.declared.view.View.{View}
use Rattle.g4_store.specs.Numbers.{Among, has}
use Rattle.g4_store.specs.Views.{Knows, IsKept}
use Rattle.g4_store.proofs.Lists.{set_there, snoc_at}

module _ {N C : Type 0} where
  -- the others are as they were, and this one fits
  pub each_set : (p : Plan N) (now : List ℕ) (rows : List C) (desk count : ℕ) (holder : ℕ → ℕ) (views : List (View C)) (id : ℕ) (w : View C)
      → ((j : ℕ) (u : View C) → j ≢ id → get_elem? views j ≡ some u → u.spent ≡ false → Knows p now rows desk count holder j u)
      → (w.spent ≡ false → Knows p now rows desk count holder id w)
      → (j : ℕ) (u : View C) → get_elem? (set views id w) j ≡ some u → u.spent ≡ false → Knows p now rows desk count holder j u
  each_set p now rows desk count holder views id w others mine j u e live =
      ⊎_elim
      (λ (x : (j ≡ id) × (w ≡ u)). subst (λ (y : ℕ × View C). y.1.spent ≡ false → Knows p now rows desk count holder y.0 y.1)
      (λ i. (sym x.0 i, x.1 i)) mine live)
      (λ (x : (j ≢ id) × (get_elem? views j ≡ some u)). others j u x.0 x.1 live)
      (at_set views id j w u e)

  -- one view more
  pub each_longer : (p : Plan N) (words : List ℕ) (rows : List C) (desk count : ℕ) (holder : ℕ → ℕ) (views : List (View C))
      (right : View C) (new : ℕ) → length views ≡ new
      → ((j : ℕ) (u : View C) → get_elem? views j ≡ some u → u.spent ≡ false → Knows p words rows desk count holder j u)
      → Knows p words rows desk count holder new right
      → (j : ℕ) (u : View C) → get_elem? (views ++ right ∷ []) j ≡ some u → u.spent ≡ false → Knows p words rows desk count holder j u
  each_longer p words rows desk count holder views right new len old newest j u e l =
      ⊎_elim
      (λ (was : get_elem? views j ≡ some u). old j u was l)
      (λ (x : (j ≡ length views) × (right ≡ u)).
      subst (λ (z : ℕ × View C). Knows p words rows desk count holder z.0 z.1) (λ i. (sym (x.0 ∙ len) i, x.1 i)) newest)
      (snoc_at views right u j e)

module _ {C : Type 0} where
  -- a view takes the place of one that held and saw no more
  pub kept_set : (views : List (View C)) (id : ℕ) (v w : View C) (f : Fact C) → get_elem? views id ≡ some v → w.spent ≡ false
      → ((n : ℕ) → has n v.holds ≡ true → has n w.holds ≡ true) → (Among f v.taught → Among f w.taught) → IsKept views f
      → IsKept (set views id w) f
  kept_set views id v w f at live holds more k = go (ℕ_discrete k.seat id)
    where
      go : Dec (k.seat ≡ id) → IsKept (set views id w) f
      go (yes e) = let same : k.view ≡ v = some-injective _ _ (sym k.there ∙ ap (λ (j : ℕ). get_elem? views j) e ∙ at) in
          record {
            number = k.number;
            seat = id;
            view = w;
            there = set_there views id v w at;
            live = live;
            holds = holds k.number (ap (λ (u : View C). has k.number u.holds) (sym same) ∙ k.holds);
            teaches = more (subst (λ (u : View C). Among f u.taught) same k.teaches);
          }
      go (no n) = record {
        number = k.number;
        seat = k.seat;
        view = k.view;
        there = set_else views id k.seat w n ∙ k.there;
        live = k.live;
        holds = k.holds;
        teaches = k.teaches;
      }

  pub kept_longer : (views : List (View C)) (right : View C) (f : Fact C) → IsKept views f → IsKept (views ++ right ∷ []) f
  kept_longer views right f k = record {
    number = k.number;
    seat = k.seat;
    view = k.view;
    there = at_longer views (right ∷ []) k.seat k.view k.there;
    live = k.live;
    holds = k.holds;
    teaches = k.teaches;
  }
