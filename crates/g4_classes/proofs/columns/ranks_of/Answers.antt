use Rattle.std.proofs.Common.{◌≡◌, ◌+◌, ◌<◌, ◌≤◌, inl, inr, ℕ, List, length, get_or, refl, sym, ap, ◌∙◌, subst, arith}
use Rattle.std.proofs.lemmas.Bool.{cases_lt}
use Rattle.g4_classes.specs.Columns.{AreRanks}
use Rattle.g4_classes.proofs.Ranking.{ranks_fit, ranks_more}
use Rattle.g4_classes.proofs.columns.ranks_of.Goals as goal

pub loop-index-preserved : goal.loop-index-preserved
loop-index-preserved c =
    let l = c.loop-index in
    let r = l.invariant.0 in
    let k = l.index in
    let least = c.args.least.now in
    let first = get_or least k 0 in
    let ranks = l.columns.items in
    let n = c.next_rank-next in
    let is = c.as_slice.ensures.value in
    let size : length c.as_slice.result.now ≡ k = ap length is ∙ r.length_is in
    let known : first < k → (n.result.0 ≡ get_or ranks first 0) × (n.result.1 ≡ l.count) = λ less. let e =
    n.ensures.known (omega (arith, less, size)) in (e.0 ∙ ap (λ (xs : List ℕ). get_or xs first 0) is, e.1) in
    let new : (first < k → ⊥) → (n.result.0 ≡ l.count) × (n.result.1 ≡ l.count + 1) =
    λ not. n.ensures.new (λ less. not (omega (arith, less, size))) in (
      ranks_more c.requires.least.0 least c.requires.least.1 k ranks l.count first
          (let t = c.loop-index-test.true in omega (arith, t)) refl r n.result.0 n.result.1 c.push.new.self.items
          c.in_ok-push.ensures.items known new,
      (let few = l.invariant.1 in elim (cases_lt first k) [
        | inl less ↦ (let e = (known less).1 in omega (arith, e, few))
        | inr not ↦ (let e = (new (λ less. omega (arith, less, not))).1 in omega (arith, e, few))
      ]),
    )

pub invariant_of-result : goal.invariant_of-result
invariant_of-result c =
    let l = c.loop-index in
    let t = c.loop-index-test.false in
    let e = l.auto.index-end in
    let n = c.requires.count in
    let at : l.index ≡ 4098 = omega (arith, t, e, n) in
    ranks_fit c.args.least.now l.columns.items l.count
    (subst (λ (k : ℕ). AreRanks k c.args.least.now l.columns.items l.count) at l.invariant.0)
