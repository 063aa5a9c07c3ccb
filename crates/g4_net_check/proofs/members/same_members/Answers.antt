use Rattle.std.proofs.Common.{◌↔◌, ℕ, List, Bool, IsTrue, All, Contains, sym, subst}
use Rattle.g4_net_check.proofs.Lists.{not_same, same_answer}
use Rattle.g4_net_check.proofs.members.same_members.Goals.{then-are_among, else-are_among}
use Rattle.g4_net_check.proofs.members.same_members.Goals as goal

pub returns : goal.returns
returns c =
    let one = c.args.one.now in
    let other = c.args.other.now in
    let a = c.in_ok-one.one.items in
    let b = c.in_ok-other.other.items in
    let p = c.are_among.result in
    let first : IsTrue p ↔ All (Contains b) a =
    subst (λ (l : List ℕ). IsTrue p ↔ All (Contains l) a) c.as_slice-2.ensures.value
    (subst (λ (l : List ℕ). IsTrue p ↔ All (Contains c.as_slice-2.result.now) l) c.as_slice.ensures.value c.are_among.ensures) in
    elim c.if-are_among.branch [
      | then-are_among w ↦ (
          let q = w.are_among-then-are_among.result in
          let back : IsTrue q ↔ All (Contains a) b =
          subst (λ (l : List ℕ). IsTrue q ↔ All (Contains l) b) w.as_slice-then-are_among-2.ensures.value
          (subst (λ (l : List ℕ). IsTrue q ↔ All (Contains w.as_slice-then-are_among-2.result.now) l)
          w.as_slice-then-are_among.ensures.value w.are_among-then-are_among.ensures) in
          subst (λ (r : Bool). IsTrue r ↔ ((t : ℕ) → Contains one t ↔ Contains other t)) (sym w.result-is)
          (same_answer one other a b c.in_ok-one.ensures.same c.in_ok-other.ensures.same p q w.if-are_among.true first back)
          )
      | else-are_among w ↦ not_same one other a b c.in_ok-one.ensures.same c.in_ok-other.ensures.same p c.if-are_among.result
          w.if-are_among.false w.result-is first
    ]
