use Rattle.std.proofs.Common.{◌≡◌, ◌<◌, ◌≤◌, ◌↔◌, ℕ, List, length, Some, IsTrue, refl, sym, ◌∙◌, ap, subst, arith, inl, inr}
use Rattle.std.specs.List.{slice_get, Contains}
use Rattle.std.proofs.lemmas.Bool.{cases_lt}
use Rattle.std.proofs.lemmas.Option.{slice_get_read, same_Some, slice_get_within}
use Rattle.g4_cycles.specs.Edges.{EdgeOf}
use Rattle.g4_net.specs.Network.{IsReturn}
use Rattle.g4_net_check.specs.Callers.{HasReturn}
use Rattle.g4_net_check.proofs.Lists.{list_at}
use Rattle.g4_net_check.proofs.Returns.{compared}
use Rattle.g4_net_check.proofs.callers.callers_fit.Goals as goal

pub returns-then-not-branch : goal.returns-then-not-branch
returns-then-not-branch g c =
    let net = c.args.net.now in
    let i = c.loop-rule.rule in
    let lists = c.in_ok-returns.returns.items in
    let listed = c.as_slice-in-loop-rule.result.now in
    let callers = c.as_slice-callers.result.now in
    let here : slice_get net.callers i ≡ Some listed =
    sym (ap (λ (l : List (List ℕ)). slice_get l i) c.as_slice-callers.ensures)
    ∙ (slice_get_read callers (length callers) i c.index-callers-rule.result refl (omega arith) c.index-callers-rule.is
    ∙ ap (λ (l : List ℕ). Some l) (sym c.as_slice-in-loop-rule.ensures)) in
    let within : i < length lists = omega (arith, c.in_ok-returns.ensures.size) in
    let found = c.as_slice-in-loop-rule-2.ensures.value ∙ list_at lists i c.index.result.now within c.index.ensures in
    let returns : (rule t : ℕ) → EdgeOf lists rule t ↔ HasReturn net.states rule t =
    subst (λ ss. (rule t : ℕ) → EdgeOf lists rule t ↔ HasReturn ss rule t) c.as_slice.ensures c.in_ok-returns.ensures.returns in
    let answer = compared net lists returns i listed c.as_slice-in-loop-rule-2.result.now c.in_ok-same_members.field-0 found
    c.in_ok-same_members.ensures in
    let wrong : IsTrue c.in_ok-same_members.field-0 → ⊥ = λ t. let n : ⊥ = cc in n in
    (λ t. absurd (cc), λ has. absurd (wrong (answer.1 (λ t. has i t listed here))))

pub loop-rule-preserved : goal.loop-rule-preserved
loop-rule-preserved g c =
    let net = c.args.net.now in
    let i = c.loop-rule.rule in
    let lists = c.in_ok-returns.returns.items in
    let listed = c.as_slice-in-loop-rule.result.now in
    let callers = c.as_slice-callers.result.now in
    let here : slice_get net.callers i ≡ Some listed =
    sym (ap (λ (l : List (List ℕ)). slice_get l i) c.as_slice-callers.ensures)
    ∙ (slice_get_read callers (length callers) i c.index-callers-rule.result refl (omega arith) c.index-callers-rule.is
    ∙ ap (λ (l : List ℕ). Some l) (sym c.as_slice-in-loop-rule.ensures)) in
    let within : i < length lists = omega (arith, c.in_ok-returns.ensures.size) in
    let found = c.as_slice-in-loop-rule-2.ensures.value ∙ list_at lists i c.index.result.now within c.index.ensures in
    let returns : (rule t : ℕ) → EdgeOf lists rule t ↔ HasReturn net.states rule t =
    subst (λ ss. (rule t : ℕ) → EdgeOf lists rule t ↔ HasReturn ss rule t) c.as_slice.ensures c.in_ok-returns.ensures.returns in
    let answer = compared net lists returns i listed c.as_slice-in-loop-rule-2.result.now c.in_ok-same_members.field-0 found
    c.in_ok-same_members.ensures in
    let right : IsTrue c.in_ok-same_members.field-0 = cc in
    λ rule t l less at. elim (cases_lt rule i) [
      | inl before ↦ c.loop-rule.invariant rule t l before at
      | inr late ↦ (
          let same : rule ≡ i = omega (arith, less, late) in
          let list : listed ≡ l = same_Some listed l (sym here ∙ (sym (ap (slice_get net.callers) same) ∙ at)) in
          subst (λ (r : ℕ). Contains l t ↔ IsReturn net r t) (sym same)
          (subst (λ (x : List ℕ). Contains x t ↔ IsReturn net i t) list (answer.0 right t))
          )
    ]

pub returns : goal.returns
returns g c =
    let net = c.args.net.now in
    let past : length net.callers ≤ c.loop-rule.rule = omega (arith, ap length c.as_slice-callers.ensures) in (
      λ t. λ rule t listed at. let below : rule < c.loop-rule.rule =
          omega (arith, slice_get_within net.callers rule listed at, past) in c.loop-rule.invariant rule t listed below at,
      λ has. refl,
    )
