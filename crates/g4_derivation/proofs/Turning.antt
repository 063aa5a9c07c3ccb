-- Which states of a rule are levels, and from where an edge leads to one, by the rule's shape.
use Rattle.std.proofs.Common.{◌≡◌, ℕ, ◌+◌, ◌<◌, ◌≤◌, ◌⊎◌, inl, inr, List, true, Some, sym, subst, arith}
use native.Mathlib.Decide.{dec_lt}
use Rattle.g4_source.specs.Elements.{Elements, either}
use Rattle.g4_net.specs.declared.network.State.{State}
use Rattle.g4_net.specs.declared.network.State.TheVariants.{Decision, End, Empty}
use Rattle.g4_net.specs.Leads.{IsTarget}
use Rattle.g4_net.specs.Network.{ParserNetwork, state_at, start_of, end_of}
use Rattle.g4_layout.specs.Layout.{with_exit}
use Rattle.g4_leftrec.specs.OwnCalls.{Part}
use Rattle.g4_leftrec.specs.Rewriting.{StepIn}
use Rattle.g4_derivation.specs.Alternatives.{IsNoLevel}
use Rattle.g4_derivation.proofs.LevelFree.{EachIsLevelFree}
use Rattle.g4_derivation.proofs.RuleLevels.{AvoidsLevels, IsFreeAt, starts_free, other_state, operator_states}
use Rattle.g4_derivation.proofs.Shapes.{Shape, plain_shape, loop_shape, PartsAreLevelFree, OperatorLies, laid_operators}
use Rattle.g4_derivation.proofs.Starting.{TurnsLie}

module _ (net : ParserNetwork) (k : ℕ) (end_is : state_at net (end_of k) ≡ Some (End k)) where
  -- the end of a rule is no level, and leads to none
  pub end_free : IsFreeAt net (end_of k)
  end_free = (
    other_state net (end_of k) (End k) end_is (λ q t e. let n : ⊥ = cc in n),
    λ t s is target. absurd (let same : s ≡ End k = cc in subst (λ (x : State (List ℕ)). IsTarget x t) same target),
  )

  -- the decision of the turns is no level
  pub turning_free : {u n m : ℕ} {operators : List (Elements StepIn)} → TurnsLie net k u n m operators → IsNoLevel net u
  turning_free {u} turns = other_state net u (Decision (with_exit true turns.firsts turns.exit)) turns.decides
      (λ q t e. let n : ⊥ = cc in n)

  -- the start of a rule is no level
  pub shape_start_free : {count n m : ℕ} {xs : List (Elements StepIn)} {parts : List (Part StepIn)} → Shape net k count n m xs parts
      → EachIsLevelFree (either xs) → IsFreeAt net (start_of k)
  shape_start_free (plain_shape l) free = (starts_free net l free end_free.0).0
  shape_start_free (loop_shape u l parts_free turns) free = (starts_free net l free (turning_free turns)).0

  module _ (count n m : ℕ) (parts : List (Part StepIn)) where
    -- An operator of the rule begins at the state, and is laid out from there up to a state near the rule's end.
    pub record IsOperatorState (p : ℕ) : Type 0 where
      pub turning : ℕ
      pub lies : TurnsLie net k turning (turning + 1) m (laid_operators k count parts)
      pub begins : OperatorLies net k count turning parts p
      pub free : IsNoLevel net (p + 1)

    -- a state of a rule: no edge leads to a level, or it is the decision of the turns; and it is no level, or an operator begins there
    pub record IsRuleState (p : ℕ) : Type 0 where
      pub avoids : AvoidsLevels net p ⊎ TurnsLie net k p (p + 1) m (laid_operators k count parts)
      pub level : IsNoLevel net p ⊎ IsOperatorState p

    -- a state that is free
    free_state : (p : ℕ) → IsFreeAt net p → IsRuleState p
    free_state p h = record { avoids = inl h.1; level = inl h.0 }

    -- a state of the turns
    turn_state : (u : ℕ) → PartsAreLevelFree parts → TurnsLie net k u (u + 1) m (laid_operators k count parts) → (p : ℕ) → u < p
        → p < m → IsRuleState p
    turn_state u free turns p from below =
        let u_free = turning_free turns in let after = turns.after in
        elim (dec_lt p turns.exit) [
          | yes before ↦ (
              let s = operator_states net k count u u_free parts free turns.bodies turns.back p (omega arith) before in record {
                avoids = inl s.avoids;
                level = elim s.level [ inl none ↦ inl none | inr b ↦ inr (record { turning = u; lies = turns; begins = b.0; free = b.1 }) ];
              })
          | no at ↦ (
              let same : turns.exit ≡ p = omega arith in subst IsRuleState same (free_state turns.exit (
                other_state net turns.exit (Empty (end_of k)) turns.leaves (λ q t e. let n : ⊥ = cc in n),
                λ t s is target. let equal : s ≡ Empty (end_of k) = cc in
                    let at_end : t ≡ end_of k = subst (λ (x : State (List ℕ)). IsTarget x t) equal target in
                    subst (IsNoLevel net) (sym at_end) end_free.0,
              )))
        ]

    -- the states of a rule other than its start and end
    pub shape_states : {xs : List (Elements StepIn)} → Shape net k count n m xs parts → EachIsLevelFree (either xs) → (p : ℕ) → n ≤ p
        → p < m → IsRuleState p
    shape_states (plain_shape l) free p from below = let h = (starts_free net l free end_free.0).1 in
        free_state p (h.none p from below, h.avoid p from below)
    shape_states (loop_shape u l parts_free turns) free p from below = elim (dec_lt p u) [
      | yes before ↦ (let h = (starts_free net l free (turning_free turns)).1 in free_state p (h.none p from before, h.avoid p from before))
      | no not_before ↦ elim (dec_lt u p) [
        | yes beyond ↦ turn_state u parts_free turns p beyond below
        | no at ↦ (let same : u ≡ p = omega arith in
            subst IsRuleState same (record { avoids = inr turns; level = inl (turning_free turns) }))
      ]
    ]
