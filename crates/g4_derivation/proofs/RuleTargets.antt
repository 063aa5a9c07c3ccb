-- To which states the edges of a rule's states lead.
use Rattle.std.proofs.Common.{◌≡◌, ℕ, ◌+◌, ◌<◌, ◌≤◌, ◌⊎◌, inl, inr, List, length, true, Some, refl, sym, subst, arith, Contains}
use native.Mathlib.Decide.{dec_lt}
use Rattle.g4_source.specs.Elements.{Elements}
use Rattle.g4_net.specs.declared.network.State.TheVariants.{Decision, Empty}
use Rattle.g4_net.specs.Network.{ParserNetwork, state_at, start_of, end_of}
use Rattle.g4_layout.specs.Layout.{with_exit}
use Rattle.g4_layout.proofs.Ends.{with_exit_cases, at_or_below}
use Rattle.g4_layout.proofs.Spans.{in_order_spans, side_by_side_up, firsts_between}
use Rattle.g4_leftrec.specs.OwnCalls.{Part}
use Rattle.g4_leftrec.specs.Rewriting.{StepIn}
use Rattle.g4_derivation.proofs.Shapes.{Shape, plain_shape, loop_shape, turning_below}
use Rattle.g4_derivation.proofs.Starting.{StartsLie, one_start, several_starts, TurnsLie}
use Rattle.g4_derivation.proofs.Targets.{AreAll, LeadsAt, leads_by, in_order_first, within_in_order, within_bodies}

-- the state is a target of the decision
abbrev pub IsDecided : ParserNetwork → ℕ → ℕ → Type 0
IsDecided net d q = (targets : List ℕ) × (state_at net d ≡ Some (Decision targets)) × Contains targets q

-- what a decision leads to is a target of it
decided_first : (net : ParserNetwork) (d q : ℕ) (firsts : List ℕ) → state_at net d ≡ Some (Decision firsts) → IsDecided net d q
    → Contains firsts q
decided_first net d q firsts is (targets, found, c) = let same : targets ≡ firsts = cc in subst (λ (ts : List ℕ). Contains ts q) same c

-- the states of alternatives are in order
starts_up : {net : ParserNetwork} {k g n m : ℕ} {xs : List (Elements StepIn)} → StartsLie net k g n m xs → n ≤ m
starts_up (one_start x last l leads) = (in_order_spans l).up
starts_up (several_starts xs firsts lasts two is l leads) = side_by_side_up l

-- a first state of alternatives that are laid out before q is not q
before_others : {net : ParserNetwork} {k g n u : ℕ} {xs : List (Elements StepIn)} → StartsLie net k g n u xs → (q : ℕ) → u ≤ q
    → 2 ≤ length xs → IsDecided net (start_of k) q → ⊥
before_others (one_start x last l leads) q from two d = omega arith
before_others {net} {k} (several_starts _ firsts lasts more is l leads) q from two d = let b =
    firsts_between l q (decided_first net (start_of k) q firsts is d) in omega arith

module _ (net : ParserNetwork) (Chosen Allowed : ℕ → Type 0) where
  -- the start of a rule
  start_leads : {k g n m : ℕ} {xs : List (Elements StepIn)} → StartsLie net k g n m xs → AreAll Chosen n m → AreAll Allowed n m
      → Allowed g → LeadsAt net Chosen Allowed (start_of k)
  start_leads {g = g} (one_start x last l leads) chosen allowed g_allowed = elim (in_order_first net Chosen Allowed l chosen allowed) [
    | inl same ↦ subst (LeadsAt net Chosen Allowed) same (leads_by net Chosen Allowed last (Some (Empty g)) leads g_allowed)
    | inr h ↦ h
  ]
  start_leads {k} (several_starts xs firsts lasts two is l leads) chosen allowed g_allowed =
      leads_by net Chosen Allowed (start_of k) (Some (Decision firsts)) is (λ t c. let b = firsts_between l t c in chosen t b.0 b.1)

  -- the other states of the alternatives with which it starts; of several alternatives the chosen states may leave out the first ones
  starts_lead : {k g n m : ℕ} {xs : List (Elements StepIn)} → StartsLie net k g n m xs
      → ((q : ℕ) → n ≤ q → q < m → (2 ≤ length xs → IsDecided net (start_of k) q → ⊥) → Chosen q) → AreAll Allowed n m →
      (length xs < 2 → Allowed (start_of k)) → Allowed g → (p : ℕ) → n ≤ p → p < m → LeadsAt net Chosen Allowed p
  starts_lead {g = g} (one_start x last l leads) chosen allowed start g_allowed p from below =
      elim (within_in_order net Chosen Allowed l (λ q q_from q_below. chosen q q_from q_below (λ two d. absurd (omega arith))) allowed
      (start (omega arith)) p from below) [
        | inl same ↦ subst (LeadsAt net Chosen Allowed) (sym same) (leads_by net Chosen Allowed last (Some (Empty g)) leads g_allowed)
        | inr h ↦ h
      ]
  starts_lead {k} {g} (several_starts xs firsts lasts two is l leads) chosen allowed start g_allowed p from below =
      within_bodies net Chosen Allowed l g leads
      (λ q q_from q_below apart. chosen q q_from q_below (λ several d. apart (decided_first net (start_of k) q firsts is d)))
      allowed g_allowed p from below

  -- the decision of the turns
  turning_leads : {k u n m : ℕ} {operators : List (Elements StepIn)} → TurnsLie net k u n m operators → AreAll Chosen n m
      → LeadsAt net Chosen Allowed u
  turning_leads {u = u} turns chosen =
      let up = side_by_side_up turns.bodies in let last = turns.after in
      leads_by net Chosen Allowed u (Some (Decision (with_exit true turns.firsts turns.exit))) turns.decides
      (λ t c. elim (with_exit_cases true turns.firsts turns.exit t c) [
        | inl same ↦ subst Chosen (sym same) (chosen turns.exit up (omega arith))
        | inr old ↦ (let b = firsts_between turns.bodies t old in chosen t b.0 (omega arith))
      ])

  -- the states of the turns
  turns_lead : {k u n m : ℕ} {operators : List (Elements StepIn)} → TurnsLie net k u n m operators → AreAll Chosen n m
      → AreAll Allowed n m → Allowed u → Allowed (end_of k) → (p : ℕ) → n ≤ p → p < m → LeadsAt net Chosen Allowed p
  turns_lead {k} {u} turns chosen allowed u_allowed end_allowed p from below =
      let last = turns.after in
      at_or_below {P = LeadsAt net Chosen Allowed} turns.exit
      (λ q q_from q_below. within_bodies net Chosen Allowed turns.bodies u turns.back
      (λ r r_from r_below apart. chosen r r_from (omega arith)) (λ r r_from r_below. allowed r r_from (omega arith)) u_allowed q
      q_from q_below)
      (leads_by net Chosen Allowed turns.exit (Some (Empty (end_of k))) turns.leaves end_allowed) p from (omega arith)

module _ (net : ParserNetwork) (k n m : ℕ) (xs : List (Elements StepIn)) where
  -- one of the states other than the rule's start and end
  abbrev pub IsInside : ℕ → Type 0
  IsInside q = (n ≤ q) × (q < m)

  -- such a state, and none to which the rule's start decides where several alternatives begin
  abbrev pub IsLater : ℕ → Type 0
  IsLater q = IsInside q × (2 ≤ length xs → IsDecided net (start_of k) q → ⊥)

  -- such a state or the rule's end, or its start where one alternative begins
  abbrev pub IsReached : ℕ → Type 0
  IsReached q = IsInside q ⊎ ((q ≡ end_of k) ⊎ ((q ≡ start_of k) × (length xs < 2)))

  -- decisions at the rule's start lead to its other states
  pub shape_start : {count : ℕ} {parts : List (Part StepIn)} → Shape net k count n m xs parts → LeadsAt net IsInside IsReached (start_of k)
  shape_start (plain_shape l) = start_leads net IsInside IsReached l (λ q from below. (from, below))
      (λ q from below. inl (from, below)) (inr (inl refl))
  shape_start (loop_shape u l free turns) =
      let after = turning_below turns in let up = starts_up l in
      start_leads net IsInside IsReached l (λ q from below. (from, omega arith)) (λ q from below. inl (from, omega arith)) (inl (up, after))

  -- and those at these to later ones
  pub shape_inside : {count : ℕ} {parts : List (Part StepIn)} → Shape net k count n m xs parts → (p : ℕ) → n ≤ p → p < m
      → LeadsAt net IsLater IsReached p
  shape_inside (plain_shape l) p from below =
      starts_lead net IsLater IsReached l (λ q q_from q_below apart. ((q_from, q_below), apart))
      (λ q q_from q_below. inl (q_from, q_below)) (λ few. inr (inr (refl, few))) (inr (inl refl)) p from below
  shape_inside (loop_shape u l free turns) p from below =
      let after = turning_below turns in
      let up : n ≤ u = starts_up l in
      let later : AreAll IsLater (u + 1) m = λ q q_from q_below. ((omega arith, q_below), λ two d. before_others l q (omega arith) two d) in
      elim (dec_lt p u) [
        | yes before ↦ starts_lead net IsLater IsReached l (λ q q_from q_below apart. ((q_from, omega arith), apart))
            (λ q q_from q_below. inl (q_from, omega arith)) (λ few. inr (inr (refl, few))) (inl (up, after)) p from before
        | no not_before ↦ elim (dec_lt u p) [
          | yes beyond ↦ turns_lead net IsLater IsReached turns later (λ q q_from q_below. inl (omega arith, q_below))
              (inl (up, after)) (inr (inl refl)) p (omega arith) below
          | no at ↦ (let same : u ≡ p = omega arith in
              subst (LeadsAt net IsLater IsReached) same (turning_leads net IsLater IsReached turns later))
        ]
      ]
