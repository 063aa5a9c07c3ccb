-- Where the edges of the states of rewritten rules lead: not to where several alternatives start, and to levels only from the turns.
use Rattle.std.proofs.Common.{◌≡◌, ℕ, ◌<◌, ◌≤◌, ◌⊎◌, inl, inr, List, [], ◌∷◌, Some, None, Option, true, length, refl, sym, ◌∙◌, subst, arith, slice_get, Contains}
use Rattle.std.proofs.lemmas.Option.{slice_get_within, get_or_from_slice_get}
use Rattle.g4_grammar.specs.declared.step.Numbering.{Numbering}
use Rattle.g4_grammar.specs.StepRules.{StepRule, CanBeRewritten}
use Rattle.g4_net.specs.declared.network.State.{State}
use Rattle.g4_net.specs.declared.network.State.TheVariants.{Decision, End, Edge, Call, Predicate, Level, Action, Empty}
use Rattle.g4_net.specs.Leads.{IsTarget}
use Rattle.g4_net.specs.Network.{ParserNetwork, state_at, start_of, end_of, written_at, IsFirst}
use Rattle.g4_net.specs.Proper.{IsOf, start, further}
use Rattle.g4_layout.specs.Built.{IsBuilt}
use Rattle.g4_layout.specs.Layout.{with_exit}
use Rattle.g4_layout.specs.Numbers.{StartsAt, number_by}
use Rattle.g4_leftrec.specs.Rewriting.{rewritten, numberings}
use Rattle.g4_derivation.specs.Alternatives.{IsOuterStart, all_numberings}
use Rattle.g4_derivation.specs.Walks.{NoLevel, WalksTo}
use Rattle.g4_derivation.proofs.OfRules.{RuleFacts, RuleHere, count_numberings, facts}
use Rattle.g4_derivation.proofs.Placed.{IsHere, at_start, at_end, inside}
use Rattle.g4_derivation.proofs.RuleTargets.{IsDecided, IsInside, IsLater, IsReached, shape_start, shape_inside}
use Rattle.g4_derivation.proofs.Spelling.{turns_near}
use Rattle.g4_derivation.proofs.Targets.{LeadsOnlyTo, target_allowed}
use Rattle.g4_derivation.proofs.Turning.{IsRuleState, end_free, shape_start_free, shape_states}

-- the number at a state is 0 or that of a level
number_or_level : (count : ℕ) (o : Option (State (List ℕ))) → (number_by count o ≡ 0) ⊎ ((q u : ℕ) × (o ≡ Some (Level q u)))
number_or_level count None = inl refl
number_or_level count (Some (Decision targets)) = inl refl
number_or_level count (Some (End rule)) = inl refl
number_or_level count (Some (Edge label t)) = inl refl
number_or_level count (Some (Call rule level back)) = inl refl
number_or_level count (Some (Predicate k t)) = inl refl
number_or_level count (Some (Level q t)) = inr (q, t, refl)
number_or_level count (Some (Action t)) = inl refl
number_or_level count (Some (Empty t)) = inl refl

-- a first state of a decision is a target of it
first_decided : (net : ParserNetwork) (d i p : ℕ) → IsFirst net d i p → IsDecided net d p
first_decided net d i p (targets, k, found, at, number) =
    (targets, found, (k, slice_get_within targets k p at, get_or_from_slice_get targets k p p at))

-- where none of these alternatives starts
pub not_at_start : (net : ParserNetwork) (k p : ℕ) (numbers : List ℕ) → (p ≡ start_of k → ⊥)
    → (2 ≤ length numbers → IsDecided net (start_of k) p → ⊥) → StartsAt net k numbers p → ⊥
not_at_start net k p [] other apart at = at
not_at_start net k p (i ∷ []) other apart at = other at
not_at_start net k p (i ∷ j ∷ more) other apart (n, first) = apart (omega arith) (first_decided net (start_of k) n p first)

module _ (set : List ℕ) (rules : List StepRule) (start_name : List ℕ) (net : ParserNetwork) (can : CanBeRewritten rules)
    (built : IsBuilt set (rewritten rules) (numberings rules) start_name net) where
  -- rule k as it is laid out
  abbrev pub Here : ℕ → Type 0
  Here = RuleHere set rules start_name net can built

  -- the alternatives with which it starts
  pub facts_of : (k : ℕ) (r : Here k) → RuleFacts net k r.numbering.count r.from r.upto r.numbering.starts
  facts_of k r = facts set rules start_name net can built k r

  module _ (k : ℕ) (r : Here k) where
    -- a state of the rule other than its start and end
    pub here_inside : (p : ℕ) → r.from ≤ p → p < r.upto → IsRuleState net k r.last r.numbering.count r.from r.upto (facts_of k r).parts p
    here_inside p from below = let f = facts_of k r in
        shape_states net k r.last r.numbering.count r.from r.upto f.parts f.shape f.free p from below

    -- a later state is one of the others
    later_reached : (q : ℕ) → IsLater net k r.from r.upto (facts_of k r).forms q → IsReached net k r.from r.upto (facts_of k r).forms q
    later_reached q h = inl h.0

    -- each target of a state of the rule
    pub reached : (p t : ℕ) (s : State (List ℕ)) → IsHere r p → state_at net p ≡ Some s → IsTarget s t
        → IsReached net k r.from r.upto (facts_of k r).forms t
    reached p t s at_start is target =
        let f = facts_of k r in
        target_allowed (IsInside net k r.from r.upto f.forms) (IsReached net k r.from r.upto f.forms) (λ q h. inl h) s t
        (subst (LeadsOnlyTo (IsInside net k r.from r.upto f.forms) (IsReached net k r.from r.upto f.forms)) is
        (shape_start net k r.from r.upto f.forms f.shape)) target
    reached p t s at_end is target = let ends = r.last in let same : s ≡ End k = cc in
        absurd (subst (λ (x : State (List ℕ)). IsTarget x t) same target)
    reached p t s (inside _ from below) is target =
        let f = facts_of k r in
        target_allowed (IsLater net k r.from r.upto f.forms) (IsReached net k r.from r.upto f.forms) later_reached s t
        (subst (LeadsOnlyTo (IsLater net k r.from r.upto f.forms) (IsReached net k r.from r.upto f.forms)) is
        (shape_inside net k r.from r.upto f.forms f.shape p from below)) target

    -- such a target is a state of the rule
    pub reached_here : (q : ℕ) → IsReached net k r.from r.upto (facts_of k r).forms q → IsHere r q
    reached_here q (inl h) = inside q h.0 h.1
    reached_here q (inr (inl same)) = subst (IsHere r) (sym same) at_end
    reached_here q (inr (inr h)) = subst (IsHere r) (sym h.0) at_start

    -- each state of the rule is its start, its end or one of the others
    pub states_of_here : {p : ℕ} → IsOf net k p → IsHere r p
    states_of_here start = at_start
    states_of_here (further p t s before is target) = reached_here t (reached p t s (states_of_here before) is target)

    -- the states of the rule are after those where rules start
    after_starts : (q j : ℕ) → r.from ≤ q → j < length (all_numberings rules) → q ≡ start_of j → ⊥
    after_starts q j from below same = let low = r.low in let many = count_numberings set rules start_name net can built in omega arith

    -- no target of a state of the rule is where another rule starts with several alternatives, nor where this one does
    pub not_outer : (t : ℕ) → IsReached net k r.from r.upto (facts_of k r).forms t → IsOuterStart (all_numberings rules) t → ⊥
    not_outer t (inl h) (j, x, is, two, same) = after_starts t j h.0 (slice_get_within (all_numberings rules) j x is) same
    not_outer t (inr (inl at)) (j, x, is, two, same) = omega arith
    not_outer t (inr (inr (at, few))) (j, x, is, two, same) =
        let here : j ≡ k = omega arith in
        let moved = subst (λ (q : ℕ). slice_get (all_numberings rules) q ≡ Some x) here is in
        let own = r.has in let equal : x ≡ r.numbering = cc in
        let many = subst (λ (y : Numbering). 2 ≤ length y.starts) equal two in let long = (facts_of k r).long in omega arith

    -- where several alternatives begin at the rule's start, that is an outer start
    outer_start : 2 ≤ length (facts_of k r).forms → IsOuterStart (all_numberings rules) (start_of k)
    outer_start two = let long = (facts_of k r).long in (k, r.numbering, r.has, omega arith, refl)

    -- a target of a decision of the rule that is no outer start is where no alternative starts
    pub later_target : (p t : ℕ) (targets : List ℕ) → IsHere r p → state_at net p ≡ Some (Decision targets)
        → (IsOuterStart (all_numberings rules) p → ⊥) → Contains targets t → IsLater net k r.from r.upto (facts_of k r).forms t
    later_target p t targets at_start is outer target =
        let f = facts_of k r in
        let h = subst (LeadsOnlyTo (IsInside net k r.from r.upto f.forms) (IsReached net k r.from r.upto f.forms)) is
        (shape_start net k r.from r.upto f.forms f.shape) in
        (h t target, λ two d. outer (outer_start two))
    later_target p t targets at_end is outer target = let ends = r.last in absurd (let n : ⊥ = cc in n)
    later_target p t targets (inside _ from below) is outer target =
        let f = facts_of k r in
        (subst (LeadsOnlyTo (IsLater net k r.from r.upto f.forms) (IsReached net k r.from r.upto f.forms)) is
        (shape_inside net k r.from r.upto f.forms f.shape p from below)) t target

    -- so its number is 0, or it is a level
    pub later_number : (t : ℕ) → IsLater net k r.from r.upto (facts_of k r).forms t
        → (written_at net t ≡ 0) ⊎ ((q u : ℕ) × (state_at net t ≡ Some (Level q u)))
    later_number t later =
        let long = (facts_of k r).long in let below = slice_get_within (all_numberings rules) k r.numbering r.has in
        let w = r.numbered.others t later.0.0 later.0.1
        (not_at_start net k t r.numbering.starts (λ same. after_starts t k later.0.0 below same) (λ two d. later.1 (omega arith) d)) in
        elim (number_or_level r.numbering.count (state_at net t)) [ inl zero_is ↦ inl (w ∙ zero_is) | inr level ↦ inr level ]

    module _ {C : Type 0} (Takes : List ℕ → C → Type 0) (Names : ℕ → C → Type 0) where
      -- the state is a decision from which a walk that reads nothing goes to an end
      abbrev pub IsLeft : ℕ → State (List ℕ) → Type 0
      IsLeft p s = ((targets : List ℕ) × (s ≡ Decision targets))
          × ((e ended : ℕ) × (state_at net e ≡ Some (End ended)) × WalksTo Takes Names NoLevel net p e [])

      -- what leads to a level is so
      pub left_before : (p t q u : ℕ) (s : State (List ℕ)) → IsHere r p → state_at net p ≡ Some s → IsTarget s t
          → state_at net t ≡ Some (Level q u) → IsLeft p s
      left_before p t q u s at_start is target level = let f = facts_of k r in
          absurd ((shape_start_free net k r.last f.shape f.free).1 t s is target q u level)
      left_before p t q u s at_end is target level = absurd ((end_free net k r.last).1 t s is target q u level)
      left_before p t q u s (inside _ from below) is target level = elim (here_inside p from below).avoids [
        | inl avoids ↦ absurd (avoids t s is target q u level)
        | inr turns ↦ (
            let decides = turns.decides in let same : s ≡ Decision (with_exit true turns.firsts turns.exit) = cc in (
              (with_exit true turns.firsts turns.exit, same),
              (end_of k, k, r.last, (turns_near Takes Names net k r.last r.numbering.count (facts_of k r).parts turns).walks),
            ))
      ]
