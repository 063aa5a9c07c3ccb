-- Two networks of the same rules are the same.
use Rattle.std.proofs.Common.{◌≡◌, ℕ, ◌+◌, ◌*◌, ◌<◌, ◌≤◌, inl, inr, List, ◌∷◌, length, Some, refl, sym, ◌∙◌, ap, subst, arith, get_or, slice_get}
use native.Mathlib.Decide.{dec_lt}
use Rattle.std.proofs.lemmas.Grind.{same_number_lists}
use Rattle.std.proofs.lemmas.List.{same_lists, length-map}
use Rattle.std.proofs.lemmas.Option.{slice_get-get_or, get_or_from_slice_get}
use Rattle.g4_source.specs.Elements.{Alternatives}
use Rattle.g4_source.specs.Rules.{alternatives_of}
use Rattle.g4_grammar.specs.declared.step.Numbering.{Numbering}
use Rattle.g4_grammar.specs.declared.step.Step.{Step}
use Rattle.g4_grammar.specs.StepRules.{StepRule}
use Rattle.g4_net.specs.declared.network.Network.{Network}
use Rattle.g4_net.specs.declared.network.State.{State}
use Rattle.g4_net.specs.declared.network.State.TheVariants.{Empty}
use Rattle.g4_net.specs.Network.{ParserNetwork, state_at, start_of, end_of}
use Rattle.g4_layout.specs.Built.{IsBuilt}
use Rattle.g4_layout.specs.Callers.{callers_of}
use Rattle.g4_layout.specs.Layout as lay
use Rattle.g4_layout.specs.Layout.{LiesAsRule, RulesLie, IsNetworkOf}
use Rattle.g4_layout.specs.Numbers.{AreNumbered, added_numbering}
use Rattle.g4_layout.specs.Rules.{rules_of}
use Rattle.g4_layout.proofs.Agreement.{IsOwn, same_or_not, bodies_both, decide_both, in_order_agree, sides_agree}
use Rattle.g4_layout.proofs.Numbering.{numbers_agree}
use Rattle.g4_layout.proofs.Spans.{one_first}

-- a rule has the same states in both
record RuleAgrees {L : Type 0} (a b : Network L) (rule : ℕ) (xs : Alternatives (Step L)) (n m m' : ℕ) : Type 0 where
  upto : m ≡ m'
  same : (p : ℕ) → IsOwn (start_of rule) n m p → state_at a p ≡ state_at b p

-- the rules from this number on do
record RulesAgree {L : Type 0} (a b : Network L) (rule : ℕ) (rules : List (Alternatives (Step L))) (n m m' : ℕ) : Type 0 where
  upto : m ≡ m'
  heads : (p : ℕ) → 2 * rule ≤ p → p < 2 * (rule + length rules) → state_at a p ≡ state_at b p
  within : (p : ℕ) → n ≤ p → p < m → state_at a p ≡ state_at b p

module _ {L : Type 0} (a b : Network L) where
  -- a rule that is laid out in both
  rule_agrees : {rule n m m' : ℕ} {xs : Alternatives (Step L)} → LiesAsRule a rule xs n m → LiesAsRule b rule xs n m'
      → RuleAgrees a b rule xs n m m'
  rule_agrees (lay.of_one rule last n m x l leads) (lay.of_one _ last' _ m' _ l' leads') =
      let agree = in_order_agree a b l l' in
      record {
        upto = agree.upto;
        same = λ p place. elim (same_or_not p last) [
          | inl is ↦ subst (λ (q : ℕ). state_at a q ≡ state_at b q) (sym is)
              (leads ∙ sym (subst (λ (q : ℕ). state_at b q ≡ Some (Empty (end_of rule))) (sym agree.last) leads'))
          | inr apart ↦ agree.same p place apart
        ];
      }
  rule_agrees (lay.of_one rule last n m x l leads) (lay.of_several _ _ m' _ firsts lasts two is l' leads') =
      absurd (let one = one_first l' in omega arith)
  rule_agrees (lay.of_several rule n m xs firsts lasts two is l leads) (lay.of_one _ last _ m' _ l' leads') =
      absurd (let one = one_first l in omega arith)
  rule_agrees (lay.of_several rule n m xs firsts lasts two is l leads) (lay.of_several _ _ m' _ firsts' lasts' two' is' l' leads') =
      let sides = sides_agree a b l l' in
      record {
        upto = sides.upto;
        same = λ p place. elim place [
          | inl at ↦ subst (λ (q : ℕ). state_at a q ≡ state_at b q) (sym at)
              (decide_both a b (start_of rule) firsts firsts' is is' sides.firsts)
          | inr h ↦ bodies_both a b sides refl leads leads' p h.0 h.1
        ];
      }

  -- rules that are laid out in both
  rules_agree : {rule n m m' : ℕ} {rules : List (Alternatives (Step L))} → RulesLie a rule rules n m → RulesLie b rule rules n m'
      → RulesAgree a b rule rules n m m'
  rules_agree (lay.no_rule rule n) (lay.no_rule _ _) = record {
    upto = refl;
    heads = λ p low high. absurd (omega arith);
    within = λ p low high. absurd (omega arith);
  }
  rules_agree (lay.a_rule rule n k m xs more l last ls) (lay.a_rule _ _ k' m' _ _ l' last' ls') =
      let one = rule_agrees l l' in
      let rest = rules_agree ls (subst (λ (q : ℕ). RulesLie b (rule + 1) more q m') (sym one.upto) ls') in
      record {
        upto = rest.upto;
        heads = λ p low high. elim (same_or_not p (start_of rule)) [
          | inl is ↦ one.same p (inl is)
          | inr apart ↦ elim (same_or_not p (end_of rule)) [
            | inl is ↦ subst (λ (q : ℕ). state_at a q ≡ state_at b q) (sym is) (last ∙ sym last')
            | inr further ↦ rest.heads p (omega arith) (omega arith)
          ]
        ];
        within = λ p low high. elim (dec_lt p k) [
          | yes before ↦ one.same p (inr (low, before))
          | no after ↦ rest.within p
              (omega arith) high
        ];
      }

module _ {L : Type 0} where
  -- lists with the same states at each number
  same_states : (xs ys : List (State L)) → length xs ≡ length ys → ((p : ℕ) → p < length xs → slice_get xs p ≡ slice_get ys p) → xs ≡ ys
  same_states xs ys long same = same_lists xs ys long
      (λ k d less. sym (get_or_from_slice_get ys k (get_or xs k d) d (sym (same k less) ∙ slice_get-get_or xs k d less)))

  -- networks of the same parts
  same_parts : (a b : Network L) → a.states ≡ b.states → a.callers ≡ b.callers → a.written ≡ b.written → a ≡ b
  same_parts a b states callers written =
      ap (λ (xs : List (State L)). record { states = xs; callers = a.callers; written = a.written }) states ∙
      (ap (λ (xs : List (List ℕ)). record { states = b.states; callers = xs; written = a.written }) callers ∙
      ap (λ (xs : List ℕ). record { states = b.states; callers = b.callers; written = xs }) written)

  -- rules with their numberings have at most one network, where its callers are listed
  pub one_network_of : (rules : List (Alternatives (Step L))) (numberings : List Numbering) (count : ℕ) (a b : Network L)
      → IsNetworkOf rules a → IsNetworkOf rules b →
      a.callers ≡ callers_of a.states count → b.callers ≡ callers_of b.states count →
      AreNumbered a 0 (2 * length rules) rules numberings → AreNumbered b 0 (2 * length rules) rules numberings → a ≡ b
  one_network_of rules numberings count a b network network' callers callers' numbered numbered' =
      let agree = rules_agree a b network.lie network'.lie in
      let states : a.states ≡ b.states = same_states a.states b.states agree.upto (λ p less. elim (dec_lt p (2 * length rules)) [
        | yes head ↦ agree.heads p (omega arith) (omega arith)
        | no after ↦ agree.within p (omega arith) less
      ]) in
      let numbers = numbers_agree a b states numberings network.lie numbered numbered' in
      same_parts a b states (callers ∙ (ap (λ (xs : List (State L)). callers_of xs count) states ∙ sym callers'))
      (same_number_lists a.written b.written (network.written ∙ (agree.upto ∙ sym network'.written))
      (λ p less. elim (dec_lt p (2 * length rules)) [
        | yes head ↦ numbers.heads p (omega arith) (omega arith)
        | no after ↦ numbers.within p (omega arith) (omega (arith, network.written))
      ]))

-- a set, rules with their numberings and a start rule have at most one network
pub one_network : (set : List ℕ) (rules : List StepRule) (numberings : List Numbering) (start : List ℕ) (a b : ParserNetwork)
    → IsBuilt set rules numberings start a → IsBuilt set rules numberings start b → a ≡ b
one_network set rules numberings start a b x y =
    let all = rules_of set rules start in
    let from : 2 * length rules + 2 ≡ 2 * length all = omega (arith, length-map rules alternatives_of) in
    let numbered_in : (net : ParserNetwork) → IsBuilt set rules numberings start net
    → AreNumbered net 0 (2 * length all) all (added_numbering ∷ numberings) =
    λ net built. subst (λ (n : ℕ). AreNumbered net 0 n all (added_numbering ∷ numberings)) from built.numbered in
    one_network_of all (added_numbering ∷ numberings) (length rules + 1) a b x.network y.network x.callers y.callers (numbered_in a x)
    (numbered_in b y)
