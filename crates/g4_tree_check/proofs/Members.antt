-- A list is searched for a number.
use Rattle.std.proofs.Common.{◌↔◌, ◌==◌, ℕ, List, IsTrue, sym, eq-eqb}
use Rattle.std.specs.List.{Contains, list_any}
use Rattle.std.proofs.Common.{eqb-true}
use Rattle.std.proofs.lemmas.List.Folds.{list_any_at}
use Rattle.std.proofs.lemmas.Map.Views.{Contains-from_any}

-- a test finds the number exactly where the list has it
pub has_member : (set : List ℕ) (x : ℕ) → IsTrue (list_any (λ a. x == a) set) ↔ Contains set x
has_member set x = (
  λ found. Contains-from_any {eq = λ a b. a == b} (λ a b same. eqb-true a b same) x set found,
  λ has. list_any_at (λ a. x == a) set has.0 x has.1 (eq-eqb x _ (sym has.2)),
)
