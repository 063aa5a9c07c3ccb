-- How the rules of a network are laid out, with what is written of their states.
use Rattle.std.proofs.Common.{◌≡◌, ℕ, suc, ◌+◌, ◌*◌, ◌<◌, ◌≤◌, inl, inr, List, [], ◌∷◌, length, Some, refl, sym, subst, arith, slice_get}
use Rattle.std.proofs.lemmas.Option.{slice_get_within}
use native.Mathlib.Decide.{dec_lt}
use Rattle.g4_source.specs.Elements.{Alternatives}
use Rattle.g4_grammar.specs.declared.step.Numbering.{Numbering}
use Rattle.g4_grammar.specs.declared.step.Step.{Step}
use Rattle.g4_net.specs.declared.network.Network.{Network}
use Rattle.g4_net.specs.declared.network.State.{State}
use Rattle.g4_net.specs.declared.network.State.TheVariants.{End}
use Rattle.g4_net.specs.Network.{state_at, start_of, end_of}
use Rattle.g4_layout.specs.Layout.{LiesAsRule, RulesLie, no_rule, a_rule, IsNetworkOf}
use Rattle.g4_layout.specs.Numbers.{AreNumbered, IsNumbered}
use Rattle.g4_layout.specs.Size.{states_of_rule}
use Rattle.g4_layout.proofs.Rules.{half, rules_up}
use Rattle.g4_layout.proofs.Sizes.{rule_size}

-- rule k of the list, with its numbering, as it is laid out from the lowest state on
pub record Placed {L : Type 0} (net : Network L) (rules : List (Alternatives (Step L))) (numberings : List Numbering) (lowest k : ℕ) :
    Type 0 where
  pub alternatives : Alternatives (Step L)
  pub is : slice_get rules k ≡ Some alternatives
  pub numbering : Numbering
  pub has : slice_get numberings k ≡ Some numbering
  pub from : ℕ
  pub upto : ℕ
  pub low : lowest ≤ from
  pub lies : LiesAsRule net k alternatives from upto
  pub numbered : IsNumbered net k numbering from upto
  pub last : state_at net (end_of k) ≡ Some (End k)

-- the state is the start of the rule as it is laid out, its end, or one of its other states
pub data IsHere {L : Type 0} {net : Network L} {rules : List (Alternatives (Step L))} {numberings : List Numbering} {lowest k : ℕ}
    (r : Placed net rules numberings lowest k) : ℕ → Type 0 where
  at_start : IsHere r (start_of k)
  at_end : IsHere r (end_of k)
  inside : (p : ℕ) → r.from ≤ p → p < r.upto → IsHere r p

-- the state is one of a rule
pub record Somewhere {L : Type 0} (net : Network L) (rules : List (Alternatives (Step L))) (numberings : List Numbering)
    (lowest p : ℕ) : Type 0 where
  pub number : ℕ
  pub rule : Placed net rules numberings lowest number
  pub here : IsHere rule p

module _ {L : Type 0} (net : Network L) (rules : List (Alternatives (Step L))) (numberings : List Numbering) (lowest : ℕ) where
  -- each rule is laid out
  each_placed : {rule n m : ℕ} {rest : List (Alternatives (Step L))} (others : List Numbering) → RulesLie net rule rest n m
      → AreNumbered net rule n rest others →
      ((k : ℕ) (xs : Alternatives (Step L)) → slice_get rest k ≡ Some xs → slice_get rules (rule + k) ≡ Some xs) →
      ((k : ℕ) (x : Numbering) → slice_get others k ≡ Some x → slice_get numberings (rule + k) ≡ Some x) →
      lowest ≤ n → ((k : ℕ) → rule ≤ k → k < rule + length rest → Placed net rules numberings lowest k)
      × ((p : ℕ) → n ≤ p → p < m → Somewhere net rules numberings lowest p)
  each_placed others (no_rule rule n) numbered found given low =
      (λ k from below. absurd (omega arith), λ p from below. absurd (omega arith))
  each_placed [] (a_rule rule n k m xs more l last rest) numbered found given low = absurd numbered
  each_placed (x ∷ others) (a_rule rule n k m xs more l last rest) numbered found given low =
      let size : k ≡ n + states_of_rule xs = rule_size l in let up = rules_up rest in
      let here : rule + 0 ≡ rule = omega arith in
      let own : Placed net rules numberings lowest rule = record {
        alternatives = xs;
        is = subst (λ (q : ℕ). slice_get rules q ≡ Some xs) here (found 0 xs refl);
        numbering = x;
        has = subst (λ (q : ℕ). slice_get numberings q ≡ Some x) here (given 0 x refl);
        from = n;
        upto = k;
        low = low;
        lies = l;
        numbered = subst (IsNumbered net rule x n) (sym size) numbered.0;
        last = last;
      } in
      let r = each_placed others rest (subst (λ (q : ℕ). AreNumbered net (rule + 1) q more others) (sym size) numbered.1)
      (λ j ys e. let next : rule + suc j ≡ rule + 1 + j = omega arith in
      subst (λ (q : ℕ). slice_get rules q ≡ Some ys) next (found (suc j) ys e))
      (λ j y e. let next : rule + suc j ≡ rule + 1 + j = omega arith in
      subst (λ (q : ℕ). slice_get numberings q ≡ Some y) next (given (suc j) y e)) (omega arith) in (
        λ j from below. elim (dec_lt rule j) [
          | yes after ↦ r.0 j (omega arith) (omega arith)
          | no at ↦ (let same : rule ≡ j = omega arith in subst (Placed net rules numberings lowest) same own)
        ],
        λ p from below. elim (dec_lt p k) [
          | yes before ↦ record { number = rule; rule = own; here = inside p from before }
          | no after ↦ r.1 p (omega arith) below
        ],
      )

module _ {L : Type 0} (net : Network L) (rules : List (Alternatives (Step L))) (numberings : List Numbering)
    (network : IsNetworkOf rules net) (numbered : AreNumbered net 0 (2 * length rules) rules numberings) where
  -- rule k as it is laid out after the starts and ends
  abbrev pub PlacedRule : ℕ → Type 0
  PlacedRule k = Placed net rules numberings (2 * length rules) k

  -- the rules
  placed : ((k : ℕ) → 0 ≤ k → k < 0 + length rules → PlacedRule k)
      × ((p : ℕ) → 2 * length rules ≤ p → p < length net.states → Somewhere net rules numberings (2 * length rules) p)
  placed = each_placed net rules numberings (2 * length rules) numberings network.lie numbered
      (λ k xs e. let same : k ≡ 0 + k = omega arith in subst (λ (q : ℕ). slice_get rules q ≡ Some xs) same e)
      (λ k x e. let same : k ≡ 0 + k = omega arith in subst (λ (q : ℕ). slice_get numberings q ≡ Some x) same e) (omega arith)

  -- rule k
  pub rule_placed : (k : ℕ) → k < length rules → PlacedRule k
  rule_placed k below = placed.0 k (omega arith) (omega arith)

  -- each state is one of a rule
  pub state_placed : (p : ℕ) (s : State L) → state_at net p ≡ Some s → Somewhere net rules numberings (2 * length rules) p
  state_placed p s is = elim (dec_lt p (2 * length rules)) [
    | yes head ↦ (let h = half p in elim h.1 [
      | inl even ↦ (let r = rule_placed h.0 (omega (arith, even)) in
          subst (Somewhere net rules numberings (2 * length rules)) (sym even) (record { number = h.0; rule = r; here = at_start }))
      | inr odd ↦ (let r = rule_placed h.0 (omega (arith, odd)) in
          subst (Somewhere net rules numberings (2 * length rules)) (sym odd) (record { number = h.0; rule = r; here = at_end }))
    ])
    | no after ↦ placed.1 p (omega arith) (slice_get_within net.states p s is)
  ]
