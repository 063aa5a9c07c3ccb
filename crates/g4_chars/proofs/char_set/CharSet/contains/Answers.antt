use Rattle.std.proofs.Common.{◌≡◌, ◌≤◌, ◌<◌, ◌∙◌, sym, subst, List, length, get_or, true, false, nat_lt, arith, rules}
use Rattle.std.proofs.lemmas.Bool.Decides.{nat_tests}
use Rattle.std.proofs.lemmas.List.Sorted.{IsPartitionPoint-from_clause}
use Rattle.std.specs.List.Sorted.{IsPartitionPoint}
use Rattle.g4_chars.specs.declared.range.Range.{Range}
use Rattle.g4_chars.specs.CharSets.{Has, IsWithin, IsCanonical}
use Rattle.g4_chars.proofs.Ranges.{has_at}
use Rattle.g4_chars.proofs.Searching.{has_at_point, has_none, parted}
use Rattle.g4_chars.proofs.char_set.CharSet.contains.Goals as goal

pub returns-in-Some : goal.returns-in-Some
returns-in-Some c =
    let x = c.args.c in
    let at = c.partition_point-at.result in
    let rs = c.deref-2.result.now in
    let same : c.deref.result.now ≡ rs = c.deref.ensures.value ∙ sym c.deref-2.ensures.value in
    let rise : IsCanonical rs = subst IsCanonical (sym c.deref-2.ensures.value) c.self.invariant in
    let Q : List Range → Type 0 = λ l. IsPartitionPoint (λ (r : Range). nat_lt r.last x ≡ true)
    (λ (r : Range). nat_lt r.last x ≡ false) l at in
    let point : Q rs = subst Q same (IsPartitionPoint-from_clause (λ (r : Range). nat_lt r.last x) c.deref.result.now at
    c.partition_point-at.ensures.partitioned (parted c.deref.result.now x (subst IsCanonical (sym same) rise))
    (λ a r q k. search rules)) in
    let H : List Range → Type 0 = λ l. Has l x in
    let self_is : rs ≡ c.args.self.now = c.deref-2.ensures.value ∙ c.self.view_is in
    let r = c.in-Some.range.now in
    let inside : at < length rs = grind (arith, nat_tests, c.in-Some.ensures.lookup.0) in
    let found : r ≡ get_or rs at r = search rules in
    let not_past : x ≤ (get_or rs at r).last = let b = point.1 at r (omega arith) inside in grind (arith, nat_tests) in (
      λ yes. subst H self_is (has_at rs at r x inside (let P : Range → Type 0 = λ s. IsWithin s x in grind (arith, nat_tests))),
      λ has. let first : (get_or rs at r).first ≤ x =
          has_at_point 0 rs at x r rise inside (λ k less. let b = point.0 k r (omega arith) less in grind (arith, nat_tests)) not_past
          (subst H (sym self_is) has) in grind (arith, nat_tests),
    )

pub returns-in-None : goal.returns-in-None
returns-in-None c =
    let x = c.args.c in
    let at = c.partition_point-at.result in
    let rs = c.deref-2.result.now in
    let same : c.deref.result.now ≡ rs = c.deref.ensures.value ∙ sym c.deref-2.ensures.value in
    let rise : IsCanonical rs = subst IsCanonical (sym c.deref-2.ensures.value) c.self.invariant in
    let Q : List Range → Type 0 = λ l. IsPartitionPoint (λ (r : Range). nat_lt r.last x ≡ true)
    (λ (r : Range). nat_lt r.last x ≡ false) l at in
    let point : Q rs = subst Q same (IsPartitionPoint-from_clause (λ (r : Range). nat_lt r.last x) c.deref.result.now at
    c.partition_point-at.ensures.partitioned (parted c.deref.result.now x (subst IsCanonical (sym same) rise))
    (λ a r q k. search rules)) in
    let H : List Range → Type 0 = λ l. Has l x in
    let self_is : rs ≡ c.args.self.now = c.deref-2.ensures.value ∙ c.self.view_is in
    let past : length rs ≤ at = grind (arith, nat_tests, c.in-None.ensures.lookup.0) in
    let d : Range = record { first = 0; last = 0 } in (
      λ wrong. absurd (grind (arith, wrong)),
      λ has.
          absurd (has_none rs x d (λ k less. let b = point.0 k d (omega arith) (omega arith) in grind (arith, nat_tests))
          (subst H (sym self_is) has)),
    )
