-- At most one rule holds the place of a fault.
use Rattle.std.proofs.Common.{◌≡◌, ◌↔◌, ◌+◌, ℕ, ◌<◌, ◌≤◌, List, length, map, get_or, Bool, IsTrue, Option, Some, None, inl, inr, refl, sym, ap, ◌∙◌, subst, arith}
use Rattle.std.specs.List.{slice_get}
use Rattle.std.specs.Option.{is_some, option_map}
use Rattle.std.proofs.lemmas.List.{length-map}
use Rattle.std.proofs.lemmas.Bool.{cases_lt}
use Rattle.std.proofs.lemmas.Option.{slice_get-map, slice_get_read, slice_get_within, same_Some}
use Rattle.g4_base.specs.declared.place.Place.{Place}
use Rattle.g4_source.proofs.OneFirst.{not_both}
use Rattle.g4_source.specs.Atoms.{AtomIn}
use Rattle.g4_source.specs.First.{FindsFirst, IsFirst}
use Rattle.g4_source.specs.Views.{rule_view}
use Rattle.g4_source.specs.declared.rule.Rule.{Rule}
use Rattle.g4_source.specs.declared.rules.RuleView.{RuleView}
use Rattle.g4_checks.specs.Holders.{FindsHolder, HoldsPlace, IsHolder}
use Rattle.g4_checks.specs.declared.references.ReferenceFault.{ReferenceFault}

module _ (fault : ReferenceFault) (rules : List Rule) where
  same_place : (m n : ℕ) → IsHolder fault rules m → IsHolder fault rules n → m ≡ n
  same_place m n h k = elim (cases_lt m n) [
    | inl less ↦ absurd (k.first m h.rule less h.there h.holds)
    | inr late ↦ elim (cases_lt n m) [
      | inl more ↦ absurd (h.first n k.rule more k.there k.holds)
      | inr early ↦ omega (arith, late, early)
    ]
  ]

  pub one_holder : (a b : Option ℕ) → FindsHolder fault rules a → FindsHolder fault rules b → a ≡ b
  one_holder None None h k = refl
  one_holder None (Some n) h k = absurd (h n k.rule k.there k.holds)
  one_holder (Some m) None h k = absurd (k m h.rule h.there h.holds)
  one_holder (Some m) (Some n) h k = ap (λ (x : ℕ). Some x) (same_place m n h k)

  -- no rule before this one holds it
  abbrev pub ArePassed : ℕ → Type 0
  ArePassed i = (k : ℕ) (other : Rule) → k < i → slice_get rules k ≡ Some other → HoldsPlace fault other → ⊥

  module _ (views : List RuleView) (are : map rule_view views ≡ rules) (i : ℕ) (view : RuleView) (within : i < length views)
      (item : view ≡ get_or views i view) where
    rule_there : slice_get rules i ≡ Some (rule_view view)
    rule_there = sym (ap (λ (rs : List Rule). slice_get rs i) are)
        ∙ (slice_get-map rule_view views i
        ∙ ap (option_map rule_view) (slice_get_read views (length views) i view refl within item))

    -- nor does this one
    pub one_passed : (HoldsPlace fault (rule_view view) → ⊥) → ArePassed i → ArePassed (i + 1)
    one_passed not_here before k other less at holds = elim (cases_lt k i) [
      | inl early ↦ before k other early at holds
      | inr late ↦ not_here
          (subst (HoldsPlace fault)
          (same_Some other (rule_view view) (sym at
          ∙ (ap (slice_get rules) (let e : k ≡ i = omega (arith, less, late) in e) ∙ rule_there))) holds)
    ]

    -- it does
    pub one_found : HoldsPlace fault (rule_view view) → ArePassed i → FindsHolder fault rules (Some i)
    one_found holds before = record { rule = rule_view view; there = rule_there; holds = holds; first = before }

  -- no rule does
  pub all_passed : (i : ℕ) → length rules ≤ i → ArePassed i → FindsHolder fault rules None
  all_passed i past before k other at holds =
      before k other (let w = slice_get_within rules k other at in omega (arith, w, past)) at holds

-- no view is left
pub all_viewed : (fault : ReferenceFault) (rules : List Rule) (views : List RuleView) (i : ℕ) → map rule_view views ≡ rules
    → length views ≤ i → ArePassed fault rules i → FindsHolder fault rules None
all_viewed fault rules views i are past before =
    all_passed fault rules i (omega (arith, past, sym (length-map views rule_view) ∙ ap length are)) before

-- something is reported of the atoms of a rule, or nothing
pub holds_where : (Reports : AtomIn → Place → Type 0) (lent own : List AtomIn) (found : Option Place) (some : Bool)
    → some ≡ is_some found → lent ≡ own → FindsFirst Reports lent found → IsTrue some ↔ ((place : Place) × IsFirst Reports own place)
holds_where Reports lent own found some told same finds =
    by_found found told (subst (λ (xs : List AtomIn). FindsFirst Reports xs found) same finds)
  where
    by_found : (o : Option Place) → some ≡ is_some o → FindsFirst Reports own o
        → IsTrue some ↔ ((place : Place) × IsFirst Reports own place)
    by_found None told none = (
      λ yes. absurd (let no_way : ⊥ = cc in no_way),
      λ first. absurd (not_both Reports own first.0 none first.1),
    )
    by_found (Some place) told first = (λ yes. (place, first), λ has. told)
