use Rattle.std.proofs.Common.{◌≡◌, ◌≤◌, ◌<◌, ◌∙◌, ℕ, sym, subst, List, length, get_or, true, false, nat_lt, arith, rules, Contains}
use Rattle.std.proofs.lemmas.Bool.Decides.{nat_tests}
use Rattle.std.proofs.lemmas.List.Sorted.{IsPartitionPoint-from_clause}
use Rattle.std.specs.List.Sorted.{IsPartitionPoint}
use Rattle.g4_tokens.specs.declared.set.Range.{Range}
use Rattle.g4_tokens.specs.Members.{IsApart, members}
use Rattle.g4_tokens.proofs.Ranges.{IsWithin, has_at, members_has}
use Rattle.g4_tokens.proofs.Searching.{rise, has_at_point, has_none, parted}
use Rattle.g4_tokens.proofs.set.Symbols.contains.Goals as goal

pub returns-in-Some : goal.returns-in-Some
returns-in-Some c =
    let x = c.args.symbol in
    let at = c.partition_point-at.result in
    let rs = c.deref-2.result.now in
    let same : c.deref.result.now ≡ rs = c.deref.ensures.value ∙ sym c.deref-2.ensures.value in
    let apart : IsApart rs = subst IsApart (sym c.deref-2.ensures.value) c.self.invariant in
    let Q : List Range → Type 0 = λ l. IsPartitionPoint (λ (r : Range). nat_lt r.last x ≡ true)
    (λ (r : Range). nat_lt r.last x ≡ false) l at in
    let point : Q rs = subst Q same (IsPartitionPoint-from_clause (λ (r : Range). nat_lt r.last x) c.deref.result.now at
    c.partition_point-at.ensures.partitioned (parted c.deref.result.now x (subst IsApart (sym same) apart))
    (λ a r q k. search rules)) in
    let C : List ℕ → Type 0 = λ l. Contains l x in
    let self_is : members rs ≡ c.args.self.now = search rules in
    let r = c.in-Some.range.now in
    let inside : at < length rs = grind (arith, nat_tests, c.in-Some.ensures.lookup.0) in
    let found : r ≡ get_or rs at r = search rules in
    let after : x ≤ (get_or rs at r).last = let b = point.1 at r (omega arith) inside in grind (arith, nat_tests) in (
      λ yes. subst C self_is ((members_has rs x).1
          (has_at rs at r x inside (let P : Range → Type 0 = λ s. IsWithin s x in grind (arith, nat_tests)))),
      λ has. let first : (get_or rs at r).first ≤ x =
          has_at_point 0 rs at x r (rise rs apart) inside
          (λ k less. let b = point.0 k r (omega arith) less in grind (arith, nat_tests)) after
          ((members_has rs x).0 (subst C (sym self_is) has)) in grind (arith, nat_tests),
    )

pub returns-in-None : goal.returns-in-None
returns-in-None c =
    let x = c.args.symbol in
    let at = c.partition_point-at.result in
    let rs = c.deref-2.result.now in
    let same : c.deref.result.now ≡ rs = c.deref.ensures.value ∙ sym c.deref-2.ensures.value in
    let apart : IsApart rs = subst IsApart (sym c.deref-2.ensures.value) c.self.invariant in
    let Q : List Range → Type 0 = λ l. IsPartitionPoint (λ (r : Range). nat_lt r.last x ≡ true)
    (λ (r : Range). nat_lt r.last x ≡ false) l at in
    let point : Q rs = subst Q same (IsPartitionPoint-from_clause (λ (r : Range). nat_lt r.last x) c.deref.result.now at
    c.partition_point-at.ensures.partitioned (parted c.deref.result.now x (subst IsApart (sym same) apart))
    (λ a r q k. search rules)) in
    let C : List ℕ → Type 0 = λ l. Contains l x in
    let self_is : members rs ≡ c.args.self.now = search rules in
    let past : length rs ≤ at = grind (arith, nat_tests, c.in-None.ensures.lookup.0) in
    let d : Range = record { first = 0; last = 0 } in (
      λ wrong. absurd (grind (arith, wrong)),
      λ has.
          absurd (has_none rs x d (λ k less. let b = point.0 k d (omega arith) (omega arith) in grind (arith, nat_tests))
          ((members_has rs x).0 (subst C (sym self_is) has))),
    )
