-- How the rules of a network are laid out, each state being one of a rule.
use Rattle.std.proofs.Common.{◌≡◌, ℕ, zero, suc, ◌+◌, ◌*◌, ◌<◌, ◌≤◌, ◌⊎◌, inl, inr, List, length, Some, refl, sym, subst, arith, slice_get}
use native.Mathlib.Decide.{dec_lt}
use Rattle.g4_source.specs.Elements.{Alternatives}
use Rattle.g4_grammar.specs.declared.step.Step.{Step}
use Rattle.g4_net.specs.declared.network.Network.{Network}
use Rattle.g4_net.specs.declared.network.State.TheVariants.{End}
use Rattle.g4_net.specs.Network.{state_at, start_of, end_of}
use Rattle.g4_layout.specs.Layout.{LiesAsRule, of_one, of_several, RulesLie, no_rule, a_rule, IsNetworkOf}
use Rattle.g4_layout.proofs.Spans.{in_order_spans, side_by_side_up}

-- a number is even or odd
pub half : (p : ℕ) → (k : ℕ) × ((p ≡ 2 * k) ⊎ (p ≡ 2 * k + 1))
half zero = (0, inl refl)
half (suc p) = let h = half p in elim h.1 [ inl even ↦ (h.0, inr (omega (arith, even))) | inr odd ↦ (suc h.0, inl (omega (arith, odd))) ]

-- rule k of the list, as it is laid out from the lowest state on
pub record Laid {L : Type 0} (net : Network L) (rules : List (Alternatives (Step L))) (lowest k : ℕ) : Type 0 where
  pub alternatives : Alternatives (Step L)
  pub is : slice_get rules k ≡ Some alternatives
  pub from : ℕ
  pub upto : ℕ
  pub low : lowest ≤ from
  pub room : upto ≤ length net.states
  pub lies : LiesAsRule net k alternatives from upto
  pub last : state_at net (end_of k) ≡ Some (End k)

-- the state is one of a rule from this number on, other than its start and end
pub record IsWithinRule {L : Type 0} (net : Network L) (rules : List (Alternatives (Step L))) (lowest rule p : ℕ) : Type 0 where
  pub number : ℕ
  pub after : rule ≤ number
  pub laid : Laid net rules lowest number
  pub from : laid.from ≤ p
  pub upto : p < laid.upto

module _ {L : Type 0} where
  -- the states of a rule are in order
  pub rule_up : {net : Network L} {rule n m : ℕ} {xs : Alternatives (Step L)} → LiesAsRule net rule xs n m → n ≤ m
  rule_up (of_one rule last n m x l leads) = (in_order_spans l).up
  rule_up (of_several rule n m xs firsts lasts two is l a) = side_by_side_up l

  -- the states of rules are in order
  pub rules_up : {net : Network L} {rule n m : ℕ} {rules : List (Alternatives (Step L))} → RulesLie net rule rules n m → n ≤ m
  rules_up (no_rule rule n) = omega arith
  rules_up (a_rule rule n k m xs more l last rest) = let a = rule_up l in let b = rules_up rest in omega arith

module _ {L : Type 0} (net : Network L) (rules : List (Alternatives (Step L))) (lowest : ℕ) where
  -- each rule is laid out, and each state after the starts and ends is of one
  pub every_rule : {rule n m : ℕ} {rest : List (Alternatives (Step L))} → RulesLie net rule rest n m
      → ((k : ℕ) (xs : Alternatives (Step L)) → slice_get rest k ≡ Some xs → slice_get rules (rule + k) ≡ Some xs) →
      lowest ≤ n → m ≤ length net.states → ((k : ℕ) → rule ≤ k → k < rule + length rest → Laid net rules lowest k)
      × ((p : ℕ) → n ≤ p → p < m → IsWithinRule net rules lowest rule p)
  every_rule (no_rule rule n) found low room = (λ k from below. absurd (omega arith), λ p from below. absurd (omega arith))
  every_rule (a_rule rule n k m xs more l last rest) found low room =
      let own_up = rule_up l in let up = rules_up rest in
      let here : rule + 0 ≡ rule = omega arith in
      let own : Laid net rules lowest rule = record {
        alternatives = xs;
        is = subst (λ (q : ℕ). slice_get rules q ≡ Some xs) here (found 0 xs refl);
        from = n;
        upto = k;
        low = low;
        room = omega arith;
        lies = l;
        last = last;
      } in
      let r = every_rule rest (λ j ys e. let next : rule + suc j ≡ rule + 1 + j = omega arith in
      subst (λ (q : ℕ). slice_get rules q ≡ Some ys) next (found (suc j) ys e)) (omega arith) room in (
        λ j from below. elim (dec_lt rule j) [
          | yes after ↦ r.0 j (omega arith) (omega arith)
          | no at ↦ (let same : rule ≡ j = omega arith in subst (Laid net rules lowest) same own)
        ],
        λ p from below. elim (dec_lt p k) [
          | yes before ↦ record { number = rule; after = omega arith; laid = own; from = from; upto = before }
          | no after ↦ (let i = r.1 p (omega arith) below in
              record { number = i.number; after = omega (arith, i.after); laid = i.laid; from = i.from; upto = i.upto })
        ],
      )

module _ {L : Type 0} (rules : List (Alternatives (Step L))) (net : Network L) (network : IsNetworkOf rules net) where
  -- rule k of the list, as it is laid out after the starts and ends
  abbrev pub LaidRule : ℕ → Type 0
  LaidRule k = Laid net rules (2 * length rules) k

  -- how the rules are laid out
  laid : ((k : ℕ) → 0 ≤ k → k < 0 + length rules → LaidRule k)
      × ((p : ℕ) → 2 * length rules ≤ p → p < length net.states → IsWithinRule net rules (2 * length rules) 0 p)
  laid = every_rule net rules (2 * length rules) network.lie
      (λ k xs e. let same : k ≡ 0 + k = omega arith in subst (λ (q : ℕ). slice_get rules q ≡ Some xs) same e) (omega arith) (omega arith)

  -- rule k as it is laid out
  pub rule_laid : (k : ℕ) → k < length rules → LaidRule k
  rule_laid k below = laid.0 k (omega arith) (omega arith)

  module _ (P : ℕ → Type 0) (heads : (k : ℕ) → LaidRule k → P (start_of k) × P (end_of k))
      (inside : (k p : ℕ) (r : LaidRule k) → r.from ≤ p → p < r.upto → P p)
      (nowhere : (p : ℕ) → length net.states ≤ p → P p) where
    -- this holds of each number, if it does of the states of each rule and of what is no state
    pub every_state : (p : ℕ) → P p
    every_state p = elim (dec_lt p (2 * length rules)) [
      | yes head ↦ (let h = half p in elim h.1 [
        | inl even ↦ (let r = heads h.0 (rule_laid h.0 (omega (arith, even))) in subst P (sym even) r.0)
        | inr odd ↦ (let r = heads h.0 (rule_laid h.0 (omega (arith, odd))) in subst P (sym odd) r.1)
      ])
      | no after ↦ elim (dec_lt p (length net.states)) [
        | yes within ↦ (let s = laid.1 p (omega arith) within in inside s.number p s.laid s.from s.upto)
        | no past ↦ nowhere p (omega arith)
      ]
    ]
