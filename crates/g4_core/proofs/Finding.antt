-- What a look at a place of a list finds.
use Rattle.std.proofs.Common.{◌≡◌, ℕ, ◌<◌, ◌≤◌, List, [], length, get_or, Option, None, Some, MatchOption, Bor, refl, sym, ap, ◌∙◌, subst, arith}
use mathlib.Core.Option.{some}
use lib.ListN.{get_elem?}
use Rattle.std.specs.Slice.{IsItemAt}
use Rattle.g4_core.proofs.Lists.{in_range, there, got}

module _ {A : Type 0} where
  pub past : (l : List A) (i : ℕ) (a : A) → length l ≤ i → get_elem? l i ≡ some a → ⊥
  past l i a le at = let lt = in_range l i a at in omega arith

  pub read : (l : List A) (i : ℕ) (a : A) → i < length l → a ≡ get_or l i a → get_elem? l i ≡ some a
  read l i a lt e = there l i a lt ∙ ap some (sym e)

module _ {A : Type 0} where
  -- the items of a list of a list, as it was read
  pub inner_read : (ls slice : List (List A)) (i : ℕ) (inner : List A) → slice ≡ ls → i < length slice → inner ≡ get_or slice i inner
      → inner ≡ get_or ls i []
  inner_read ls slice i inner e lt is =
      sym (got slice i inner [] (read slice i inner lt is)) ∙ ap (λ (l : List (List A)). get_or l i []) e

module _ {X : Type 0} where
  -- what is lent from a place is what is there
  pub item_found : (xs ys : List X) (i : ℕ) (r : Option (Bor X)) → IsItemAt xs i r → xs ≡ ys
      → MatchOption r ((a : X) → get_elem? ys i ≡ some a → ⊥) (λ x. get_elem? ys i ≡ some x.now)
  item_found xs ys i None h e = λ a at. past ys i a (subst (λ (l : List X). length l ≤ i) e h.3) at
  item_found xs ys i (Some x) h e =
      subst (λ (l : List X). get_elem? l i ≡ some x.now) e (read xs i x.now h.3.0 h.1)
