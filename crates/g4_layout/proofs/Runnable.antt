-- Every network of rules that can be laid can be parsed with.
use Rattle.std.proofs.Common.{◌≡◌, ℕ, zero, suc, ◌+◌, ◌*◌, ◌<◌, ◌≤◌, inl, inr, List, ◌∷◌, length, map, Some, refl, sym, ◌∙◌, ap, subst, arith, Contains, slice_get}
use Rattle.std.proofs.lemmas.List.{length-map}
use Rattle.std.proofs.lemmas.Option.{slice_get_within}
use Rattle.g4_tokens.specs.Symbols.{end_of_list}
use Rattle.g4_source.specs.Elements.{Alternatives}
use Rattle.g4_source.specs.Rules.{alternatives_of}
use Rattle.g4_grammar.specs.declared.step.Step.{Step}
use Rattle.g4_grammar.specs.StepRules.{StepRule, IsPlainLaid, CanBeLaid}
use Rattle.g4_grammar.specs.Steps.{CallsRule, added_rule}
use Rattle.g4_net.specs.declared.network.State.{State}
use Rattle.g4_net.specs.declared.network.State.TheVariants.{End, Edge, Call}
use Rattle.g4_net.specs.AddedRule.{HasAddedRule, IsOutside, IsApart, IsRunnable}
use Rattle.g4_net.specs.Network.{ParserNetwork, state_at, start_of, end_of}
use Rattle.g4_layout.specs.Callers.{callers_of}
use Rattle.g4_layout.specs.Layout.{RulesLie, a_rule, IsNetworkOf}
use Rattle.g4_layout.specs.Rules.{rule_number, rules_of}
use Rattle.g4_layout.proofs.Added.{added_at}
use Rattle.g4_layout.proofs.Callers.{callers_length}
use Rattle.g4_layout.proofs.Formed.{well_formed}
use Rattle.g4_layout.proofs.Laying.{all_length, all_in_range, all_loops, all_cycles, all_full, plain_trees}
use Rattle.g4_layout.proofs.OwnEnds.{ends_are_own}
use Rattle.g4_layout.proofs.Rules.{half, Laid, IsWithinRule, every_rule, rules_up}
use Rattle.g4_layout.proofs.RulesSound.{heads_sound, others_sound}
use Rattle.g4_layout.proofs.Sound.{IsSoundState, SoundAt, AreAllowed, target_allowed}
use Rattle.g4_layout.proofs.Trees.{EachIsSound, CallsKnown}
use Rattle.g4_net.specs.declared.network.TheConstants.{MOST_STATES}

-- how the rules after the added one are laid out
record AfterAdded (net : ParserNetwork) (all : List (Alternatives (Step (List ℕ)))) (count loop : ℕ) : Type 0 where
  rules : (k : ℕ) → 1 ≤ k → k ≤ count → Laid net all (loop + 5) k
  states : (p : ℕ) → loop + 5 ≤ p → p < length net.states → IsWithinRule net all (loop + 5) 1 p

-- the added rule is laid out, and then the others
added_and_others : (net : ParserNetwork) (set : List ℕ) (start loop m : ℕ) (list : List (Alternatives (Step (List ℕ))))
    → m ≡ length net.states → RulesLie net 0 (added_rule set start ∷ list) loop m →
    HasAddedRule net start loop set × AfterAdded net (added_rule set start ∷ list) (length list) loop
added_and_others net set start loop m list all (a_rule _ _ k _ _ _ l last rest) =
    let added = added_at l last in let up = rules_up rest in
    let laid = every_rule net (added_rule set start ∷ list) (loop + 5) rest
    (λ j xs e. let next : suc j ≡ 1 + j = omega arith in
    subst (λ (q : ℕ). slice_get (added_rule set start ∷ list) q ≡ Some xs) next e) (omega (arith, added.1)) (omega arith) in (
      added.0,
      record {
        rules = λ j from below. laid.0 j from (omega arith);
        states = λ p from below. laid.1 p (omega (arith, added.1)) (omega arith);
      },
    )

module _ (net : ParserNetwork) (set : List ℕ) (start : ℕ) (list : List (Alternatives (Step (List ℕ)))) (loop : ℕ)
    (loop_is : loop ≡ 2 * length list + 2)
    (added : HasAddedRule net start loop set) (others : AfterAdded net (added_rule set start ∷ list) (length list) loop)
    (from : 1 ≤ start) (within : start ≤ length list)
    (trees : (k : ℕ) (xs : Alternatives (Step (List ℕ))) → slice_get list k ≡ Some xs
    → EachIsSound (CallsKnown IsPlainLaid CallsRule (λ j. (1 ≤ j) × (j ≤ length list))) xs) where
  -- the rules, the added one first
  abbrev all : List (Alternatives (Step (List ℕ)))
  all = added_rule set start ∷ list

  -- a plain step, which calls none but rules after the added one
  abbrev IsGood : Step (List ℕ) → Type 0
  IsGood = CallsKnown IsPlainLaid CallsRule (λ j. (1 ≤ j) × (j ≤ length list))

  -- a rule after the added one
  abbrev IsOther : ℕ → Type 0
  IsOther k = (1 ≤ k) × (k ≤ length list)

  -- the state is sound, its targets being outside the added rule
  abbrev IsSoundAt : ℕ → Type 0
  IsSoundAt = SoundAt net IsGood IsOther (IsOutside loop)

  -- its start and end are outside
  start_outside : (k : ℕ) → IsOther k → IsOutside loop (start_of k)
  start_outside k other = (omega arith, inl (omega arith))

  end_outside : (k : ℕ) → IsOther k → IsOutside loop (end_of k)
  end_outside k other = (omega arith, inl (omega arith))

  -- its other states are
  others_outside : (k : ℕ) (r : Laid net all (loop + 5) k) → AreAllowed net IsGood IsOther (IsOutside loop) r.from r.upto
  others_outside k r q q_from below = (omega (arith, r.low), inr (omega (arith, r.low)))

  -- its elements
  tree_at : (k : ℕ) (xs : Alternatives (Step (List ℕ))) → 1 ≤ k → slice_get all k ≡ Some xs → EachIsSound IsGood xs
  tree_at zero xs k_from is = absurd (omega arith)
  tree_at (suc k) xs k_from is = trees k xs is

  -- its start and end are sound
  heads : (k : ℕ) → IsOther k → IsSoundAt (start_of k) × IsSoundAt (end_of k)
  heads k other = let r = others.rules k other.0 other.1 in
      heads_sound net IsGood IsOther (IsOutside loop) all (loop + 5) k r (tree_at k r.alternatives other.0 r.is) (end_outside k other)
      (others_outside k r) other

  -- a state other than those
  inside : (p : ℕ) → IsWithinRule net all (loop + 5) 1 p → IsSoundAt p
  inside p i =
      let r = i.laid in let below = slice_get_within all i.number r.alternatives r.is in
      let other : IsOther i.number = (i.after, omega arith) in
      others_sound net IsGood IsOther (IsOutside loop) all (loop + 5) i.number r (tree_at i.number r.alternatives i.after r.is)
      (end_outside i.number other) (others_outside i.number r)
      (start_outside i.number other) p i.from i.upto

  -- each state outside the added rule is sound
  outside_sound : (p : ℕ) (s : State (List ℕ)) → IsOutside loop p → state_at net p ≡ Some s
      → IsSoundState IsGood IsOther (IsOutside loop) (Some s)
  outside_sound p s (two, place) is =
      let below = slice_get_within net.states p s is in
      subst (IsSoundState IsGood IsOther (IsOutside loop)) is (elim place [
        | inl before ↦ (let h = half p in elim h.1 [
          | inl even ↦ subst IsSoundAt (sym even) (heads h.0 (omega (arith, even), omega (arith, even))).0
          | inr odd ↦ subst IsSoundAt (sym odd) (heads h.0 (omega (arith, odd), omega (arith, odd))).1
        ])
        | inr after ↦ inside p (others.states p (omega arith) below)
      ])

  -- the added rule is apart
  apart : (Contains set end_of_list → ⊥) → IsApart net start loop set
  apart no_end = record {
    added = added;
    loops_without_end = no_end;
    loop_from = omega arith;
    start = start_outside start (from, within);
    targets = λ p t s out is target. target_allowed IsGood IsOther (IsOutside loop) s t (outside_sound p s out is) target;
    calls = λ p called level back out is. start_outside called ((outside_sound p (Call called level back) out is).0.1 called refl);
    ends = λ p ended out is. (outside_sound p (End ended) out is).0;
    leaves_end = λ p t taken out is. (outside_sound p (Edge taken t) out is).0.0;
  }

-- every network of rules that can be laid can be parsed with
pub runnable : (set : List ℕ) (rules : List StepRule) (start : List ℕ) (net : ParserNetwork) → CanBeLaid rules
    → rule_number rules start ≤ length rules → (Contains set end_of_list → ⊥) →
    IsNetworkOf (rules_of set rules start) net → length net.states ≤ MOST_STATES
    → net.callers ≡ callers_of net.states (length rules + 1) → IsRunnable net (rule_number rules start) (2 * length rules + 2) set
runnable set rules start net can within no_end network few callers =
    let number = rule_number rules start in
    let from : 1 ≤ number = omega arith in
    let long = length-map rules alternatives_of in
    let all = rules_of set rules start in
    let size : length all ≡ length rules + 1 = all_length set number rules can from within in
    let loop_is : 2 * length all ≡ 2 * length rules + 2 = omega arith in
    let lies = subst (λ (n : ℕ). RulesLie net 0 all n (length net.states)) loop_is network.lie in
    let parts = added_and_others net set number (2 * length rules + 2) (length net.states) (map alternatives_of rules) refl lies in
    record {
      well_formed = well_formed Contains all net network (all_in_range set number rules can from within)
          (all_full set number rules can from within) (all_loops set number rules can from within)
          (all_cycles set number rules can from within) (callers ∙ ap (λ (n : ℕ). callers_of net.states n) (sym size));
      apart = apart net set number (map alternatives_of rules) (2 * length rules + 2) (omega arith) parts.0 parts.1 from (omega arith)
          (subst (λ (n : ℕ). (k : ℕ) (xs : Alternatives (Step (List ℕ))) → slice_get (map alternatives_of rules) k ≡ Some xs
          → EachIsSound (CallsKnown IsPlainLaid CallsRule (λ j. (1 ≤ j) × (j ≤ n))) xs)
          (sym long) (plain_trees set number rules can from within)) no_end;
      own_ends = ends_are_own all net network (all_full set number rules can from within)
          (ap length callers ∙ (callers_length net.states (length rules + 1) ∙ sym size));
      few = few;
    }
