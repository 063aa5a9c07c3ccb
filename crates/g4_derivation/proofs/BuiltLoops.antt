-- The levels of rewritten rules are at the decisions of their turns.
use Rattle.std.proofs.Common.{◌≡◌, ◌<◌, ◌≤◌, inl, inr, ℕ, ◌+◌, List, length, true, Some, ◌∙◌, ap, subst, arith}
use Rattle.std.specs.List.{enumerate_from}
use Rattle.std.proofs.lemmas.List.{length-map}
use Rattle.std.proofs.lemmas.List.FromFn.{length-enumerate_from}
use Rattle.g4_source.specs.Elements.{Elements}
use Rattle.g4_grammar.specs.StepRules.{CanBeRewritten, StepRule}
use Rattle.g4_layout.specs.Built.{IsBuilt}
use Rattle.g4_layout.specs.Layout.{with_exit}
use Rattle.g4_layout.proofs.Callers.{callers_length}
use Rattle.g4_layout.proofs.Ends.{with_exit_cases}
use Rattle.g4_layout.proofs.Spans.{firsts_between, side_by_side_up}
use Rattle.g4_net.specs.Loops.{IsLoop}
use Rattle.g4_leftrec.specs.Rewriting.{StepIn, formed, numberings, rewritten}
use Rattle.g4_net.specs.Leads.{IsTarget}
use Rattle.g4_net.specs.Network.{ParserNetwork, state_at, start_of, end_of}
use Rattle.g4_net.specs.Proper.{IsOf}
use Rattle.g4_net.specs.declared.network.State.{State}
use Rattle.g4_net.specs.declared.network.State.TheVariants.{Call, Decision, End, Level}
use Rattle.g4_derivation.specs.Letters.{NamesRule, TakesSymbol}
use Rattle.g4_derivation.proofs.Along.{exit_edge}
use Rattle.g4_derivation.proofs.OfRules.{RuleHere, count_rules, facts, rule_here}
use Rattle.g4_derivation.proofs.Placed.{IsHere, at_start, at_end, inside}
use Rattle.g4_derivation.proofs.Rewritten.{before_level}
use Rattle.g4_derivation.proofs.RuleEdges.{here_inside, states_of_here}
use Rattle.g4_derivation.proofs.Starting.{TurnsLie}
use Rattle.g4_derivation.proofs.Targets.{LeadsOnlyTo, LeadsAt, target_allowed, within_bodies}
use Rattle.g4_derivation.proofs.Turning.{end_free, shape_start_free}

-- turns that are laid out are a loop
module _ (net : ParserNetwork) (k u m : ℕ) (operators : List (Elements StepIn)) (turns : TurnsLie net k u (u + 1) m operators)
    (last : state_at net (end_of k) ≡ Some (End k)) where
  -- the decision, or a state of the turns
  abbrev IsTurning : ℕ → Type 0
  IsTurning q = (u ≤ q) × (q < turns.exit)

  -- each state of the turns leads to such states
  turning : (p : ℕ) → u < p → p < turns.exit → LeadsAt net IsTurning IsTurning p
  turning p after below =
      let up = side_by_side_up turns.bodies in
      within_bodies net IsTurning IsTurning turns.bodies u turns.back (λ q from low apart. (omega arith, low))
      (λ q from low. (omega arith, low)) (omega arith, omega arith) p (omega arith) below

  pub loop_of : IsLoop net k u turns.exit
  loop_of = record {
    targets = with_exit true turns.firsts turns.exit;
    decides = turns.decides;
    leaves = exit_edge true turns.firsts turns.exit;
    turns_or_leaves = λ t c. elim (with_exit_cases true turns.firsts turns.exit t c) [
      | inl same ↦ inl same
      | inr old ↦ (let b = firsts_between turns.bodies t old in inr (omega (arith, b.0), b.1))
    ];
    stays = λ p t s after below is to. target_allowed IsTurning IsTurning (λ q h. h) s t
        (subst (LeadsOnlyTo IsTurning IsTurning) is (turning p after below)) to;
    endless = λ p rule after below is. subst (LeadsOnlyTo IsTurning IsTurning) is (turning p after below);
    to_end = turns.leaves;
    end = last;
  }

module _ (set : List ℕ) (rules : List StepRule) (name : List ℕ) (net : ParserNetwork) (can : CanBeRewritten rules)
    (built : IsBuilt set (rewritten rules) (numberings rules) name net) where
  -- only decisions lead to levels
  pub decided : (p t q v : ℕ) (s : State (List ℕ)) → state_at net p ≡ Some s → IsTarget s t → state_at net t ≡ Some (Level q v) →
      (targets : List ℕ) × (s ≡ Decision targets)
  decided p t q v s is to level = (before_level TakesSymbol NamesRule set rules name net can built p t q v s is to level).0

  -- a number of a rule is one of those that are laid out
  pub placed : (k : ℕ) → k < length net.callers → RuleHere set rules name net can built k
  placed k below =
      let counted = ap length built.callers ∙ callers_length net.states (length (rewritten rules) + 1) in
      let forms : length (rewritten rules) ≡ length rules = length-map (enumerate_from 1 rules) formed ∙ length-enumerate_from 1 rules in
      let all = count_rules set rules name net can built in
      rule_here set rules name net can built k (omega (arith, counted, forms, all, below))

  -- no rule starts with a level
  pub starts : (p rule level back q v : ℕ) → state_at net p ≡ Some (Call rule level back) →
      state_at net (start_of rule) ≡ Some (Level q v) → ⊥
  starts p rule level back q v is at =
      let r = placed rule (built.runnable.well_formed.calls p rule level back is) in
      let f = facts set rules name net can built rule r in
      (shape_start_free net rule r.last f.shape f.free).0 q v at

  -- a state of a rule that leads to a level is the decision of its turns
  pub turned : (k p t q v : ℕ) (s : State (List ℕ)) (r : RuleHere set rules name net can built k) → IsHere r p → state_at net p ≡ Some s →
      IsTarget s t → state_at net t ≡ Some (Level q v) → (exit : ℕ) × IsLoop net k p exit
  turned k _ t q v s r at_start is to level = let f = facts set rules name net can built k r in
      absurd ((shape_start_free net k r.last f.shape f.free).1 t s is to q v level)
  turned k _ t q v s r at_end is to level = absurd ((end_free net k r.last).1 t s is to q v level)
  turned k p t q v s r (inside _ from below) is to level = elim (here_inside set rules name net can built k r p from below).avoids [
    | inl avoids ↦ absurd (avoids t s is to q v level)
    | inr turns ↦ (turns.exit, loop_of net k p _ _ turns r.last)
  ]

  pub loops : (k p t q v : ℕ) (s : State (List ℕ)) → k < length net.callers → IsOf net k p → state_at net p ≡ Some s → IsTarget s t →
      state_at net t ≡ Some (Level q v) → (exit : ℕ) × IsLoop net k p exit
  loops k p t q v s below of is to level = let r = placed k below in
      turned k p t q v s r (states_of_here set rules name net can built k r of) is to level
