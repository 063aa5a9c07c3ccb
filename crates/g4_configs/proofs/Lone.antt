-- In order, a group is alone at its state where its neighbours are of other states.
use Rattle.std.proofs.Common.{◌≡◌, ◌<◌, ◌≤◌, ◌+◌, ◌-◌, ℕ, ◌⊎◌, inl, inr, Bool, true, false, true≢false, not, IsTrue, List, AllPairs, length, get_or, refl, sym, ◌∙◌, ap, arith}
use Rattle.std.proofs.lemmas.List.{get_or_default}
use Rattle.g4_configs.specs.declared.group.Group.{Group}
use Rattle.g4_configs.specs.Groups.{ComesBefore}
use Rattle.g4_configs.specs.Verdicts.{Follows, IsLone}

-- the states before an index that has been tested
pub follows_at : (xs : List Group) (i : ℕ) (e : Group) → 0 < i → i < length xs → (get_or xs (i - 1) e).state ≡ (get_or xs i e).state
    → Follows xs i
follows_at xs i e pos within same = (
  pos,
  within,
  λ d. ap (λ (x : Group). x.state) (get_or_default xs (i - 1) d e (omega arith))
      ∙ same ∙ ap (λ (x : Group). x.state) (get_or_default xs i e d within),
)

module _ (xs : List Group) (ascending : AllPairs ComesBefore xs) where
  state_of : ℕ → Group → ℕ
  state_of i d = (get_or xs i d).state

  order : (i j : ℕ) → (i < j) ⊎ ((i ≡ j) ⊎ (j < i))
  order i j = grind arith

  -- the states do not fall
  rising : (i j : ℕ) (d : Group) → i ≤ j → j < length xs → (get_or xs i d).state ≤ (get_or xs j d).state
  rising i j d le within = elim (order i j) [
    | inl lt ↦ before (get_or xs i d) (get_or xs j d) (ascending i j d lt within)
    | inr (inl same) ↦ (let e : (get_or xs i d).state ≡ (get_or xs j d).state = ap (λ (k : ℕ). (get_or xs k d).state) same in omega arith)
    | inr (inr more) ↦ absurd (omega arith)
  ]
    where
      before : (x y : Group) → ComesBefore x y → x.state ≤ y.state
      before x y (inl less) = omega arith
      before x y (inr less) = omega (arith, less.0)

  -- so between two groups of one state all are of it
  between : (i j k : ℕ) (d : Group) → i ≤ j → j ≤ k → k < length xs → (get_or xs i d).state ≡ (get_or xs k d).state
      → (get_or xs j d).state ≡ (get_or xs k d).state
  between i j k d low high within same =
      let a = rising i j d low (omega arith) in
      let b = rising j k d high within in
      omega arith

  pub lone_between : (i : ℕ) → i < length xs → (Follows xs i → ⊥) → (Follows xs (i + 1) → ⊥) → IsLone xs i
  lone_between i within first last j d j_in same = elim (order j i) [
    | inl lt ↦ absurd (first (follows_at xs i d (omega arith) within (between j (i - 1) i d (omega arith) (omega arith) within same)))
    | inr (inl e) ↦ e
    | inr (inr lt) ↦ absurd (last (follows_at xs (i + 1) d (omega arith) (omega arith)
        (back d ∙ sym (between i (i + 1) j d (omega arith) (omega arith) j_in (sym same) ∙ same))))
  ]
    where
      back : (d : Group) → (get_or xs (i + 1 - 1) d).state ≡ (get_or xs i d).state
      back d = let at : i + 1 - 1 ≡ i = omega arith in ap (λ (k : ℕ). (get_or xs k d).state) at

  pub lone_first : (i : ℕ) → i < length xs → IsLone xs i → Follows xs i → ⊥
  lone_first i within lone (pos, at, same) = let e : i - 1 ≡ i = lone (i - 1) some (omega arith) (same some) in omega arith
    where
      some : Group
      some = record { state = 0; alternative = 0; stacks = 0 }

  pub lone_last : (i : ℕ) → i < length xs → IsLone xs i → Follows xs (i + 1) → ⊥
  lone_last i within lone (pos, at, same) =
      let at_i : i ≡ i + 1 - 1 = omega arith in
      let e : i + 1 ≡ i = lone (i + 1) some at (sym (same some) ∙ ap (λ (k : ℕ). (get_or xs k some).state) (sym at_i)) in omega arith
    where
      some : Group
      some = record { state = 0; alternative = 0; stacks = 0 }

pub not_true : (r : Bool) → IsTrue (not r) → IsTrue r → ⊥
not_true true n t = true≢false (sym n)
not_true false n t = true≢false (sym t)

pub true_not : (r : Bool) → (IsTrue r → ⊥) → IsTrue (not r)
true_not true n = absurd (n refl)
true_not false n = refl
