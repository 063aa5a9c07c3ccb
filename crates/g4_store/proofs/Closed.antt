-- What the last state says.
use Rattle.std.proofs.Common.{◌≡◌, ◌<◌, ℕ, List, [], true, false, sym, ap, ◌∙◌, subst, ⊎_elim}
use mathlib.Core.Option.{some}
use lib.ListN.{get_elem?}
use Rattle.g4_store.specs.declared.automaton.Led.{Led}
use Rattle.g4_store.specs.declared.automaton.Fact.{Fact}
use Rattle.g4_store.specs.declared.automaton.Plan.{Plan}
use Rattle.g4_store.specs.declared.view.View.{View}
use Rattle.g4_store.specs.Numbers.{Among, has}
use Rattle.g4_store.specs.Views.{IsNamed, Kept}
use Rattle.g4_store.specs.Closing.{Closes}
use Rattle.g4_store.proofs.Moves.{teaches_all}

module _ {N C : Type 0} (starts : N → ℕ → C → Type 0) (leads : N → C → ℕ → Led C → Type 0) where
  pub closes : (p : Plan N) (words : List ℕ) (views : List (View C)) (id : ℕ) (b v : View C) (rows : List C)
      (h : Kept starts leads p words views) → get_elem? views id ≡ some b → b.spent ≡ false → b.is_book ≡ true → b.loose ≡ []
      → b.rows ≡ rows
      → b.seen ≡ v.seen → b.taught ≡ v.taught → b.known ≡ v.known → b.holds ≡ v.holds → b.count ≡ v.count
      → Closes starts leads p v words rows
  closes p words views id b v rows h mine live books tight rows_is seen taught known holds count =
      let k = h.each id b mine live in
      let is : h.rows ≡ rows = sym (k.book books).1 ∙ rows_is in
      subst (λ (l : List C). Closes starts leads p v words l) is record {
        shows = h.shows;
        seen = λ f m. k.sees f (subst (λ (l : List (Fact C)). Among f l) (sym seen) m);
        taught = λ f m. subst (λ (l : List (Fact C)). Among f l) seen
            (k.taught_seen f (subst (λ (l : List (Fact C)). Among f l) (sym taught) m));
        known = λ t y m. k.knows t y (subst (λ (l : List (ℕ × C)). Among (t, y) l) (sym known) m);
        named = λ t y e. ⊎_elim (λ (m : Among y b.loose). absurd (subst (λ (l : List C). Among y l) tight m))
            (λ (n : IsNamed p words h.rows y). n) (k.named books t y e);
        whole = λ w f s. subst (λ (l : List (Fact C)). Among f l) taught (teaches_all starts leads p words views id b h mine live (
          ap (λ (l : List ℕ). has 0 l) holds ∙ w.0,
          λ n lt. ap (λ (l : List ℕ). has n l) holds
              ∙ w.1 n (subst (λ (m : ℕ). n < m) count lt),
        ) f s);
      }
