use Rattle.std.proofs.Common.{◌∙◌, ap, sym, subst, List, rules, arith}
use Rattle.std.specs.List.Sorted.{IsNonDecreasingBy}
use Rattle.std.proofs.lemmas.List.Sorted.{IsNonDecreasingBy-from_sort_by_key, All-permutation, IsPermutation-sym}
use Rattle.g4_chars.specs.declared.range.Range.{Range}
use Rattle.g4_chars.specs.CharSets.{Has, IsRange, IsCanonical}
use Rattle.g4_chars.specs.Building.{StartFrom, joined}
use Rattle.g4_chars.proofs.Ranges.{start_from, ranges_from_all, joined_rises, joined_has, has_permutation}
use Rattle.g4_chars.proofs.building.canonical.Goals as goal

pub returns-clause-canonical : goal.returns-clause-canonical
returns-clause-canonical c =
    let sorted = c.sort_unstable_by_key.new.self.items in
    let rise : IsNonDecreasingBy (λ (r : Range). r.first) sorted =
    IsNonDecreasingBy-from_sort_by_key (λ (r : Range). r.first) _ c.sort_unstable_by_key.ensures.sorted (λ a r q k. search rules) in
    let start : StartFrom 0 sorted = start_from 0 sorted (λ _ _ _. omega arith) rise in
    let all = ranges_from_all sorted (All-permutation IsRange c.args.ranges.items sorted c.sort_unstable_by_key.ensures.permutation
    c.requires) in
    let same = c.in_ok-out.ensures ∙ ap joined c.deref.ensures.value in
    subst IsCanonical (sym same) (joined_rises sorted all start)

pub returns-clause-members : goal.returns-clause-members
returns-clause-members c = λ x.
    let before = c.args.ranges.items in
    let sorted = c.sort_unstable_by_key.new.self.items in
    let rise : IsNonDecreasingBy (λ (r : Range). r.first) sorted =
    IsNonDecreasingBy-from_sort_by_key (λ (r : Range). r.first) _ c.sort_unstable_by_key.ensures.sorted (λ a r q k. search rules) in
    let start : StartFrom 0 sorted = start_from 0 sorted (λ _ _ _. omega arith) rise in
    let same = c.in_ok-out.ensures ∙ ap joined c.deref.ensures.value in
    let P : List Range → Type 0 = λ rs. Has rs x in
    let held = joined_has sorted x start in
    let moved = c.sort_unstable_by_key.ensures.permutation in (
      λ h. has_permutation sorted before x (IsPermutation-sym before sorted moved) (held.0 (subst P same h)),
      λ h. subst P (sym same) (held.1 (has_permutation before sorted x moved h)),
    )
