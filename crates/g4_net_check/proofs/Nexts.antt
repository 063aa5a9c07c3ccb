-- The states that a state leads to at once.
use Rattle.std.proofs.Common.{◌≡◌, ◌↔◌, ℕ, ◌<◌, ◌≤◌, inl, inr, List, [], ◌∷◌, ◌++◌, length, Bool, Option, Some, None, Vec, refl, sym, ap, ◌∙◌, subst, arith}
use Rattle.std.specs.Global.{Global}
use Rattle.std.specs.List.{slice_get, Contains}
use Rattle.std.proofs.lemmas.Option.{same_Some, none-some, slice_get_within, slice_get_cases}
use Rattle.g4_cycles.specs.Edges.{Graph, listed_by, EdgeOf}
use Rattle.g4_horn.specs.Follows.{Tells}
use Rattle.g4_net.specs.declared.network.Network.{Network}
use Rattle.g4_net.specs.declared.network.State.{State}
use Rattle.g4_net.specs.declared.network.State.TheVariants.{Decision, End, Edge, Call, Predicate, Level, Action, Empty}
use Rattle.g4_net.specs.Network.{state_at, start_of}
use Rattle.g4_net_check.specs.Steps.{epsilon_targets, IsNullable, StepsTo, along, into, past, IsNext}
use Rattle.g4_net_check.proofs.Lists.{in_nothing, pushed_cases}

module _ {L : Type 0} (net : Network L) (nullable : List Bool) (tells : Tells nullable (IsNullable net)) (p : ℕ) where
  to_step : (t : ℕ) (s : State L) → state_at net p ≡ Some s → IsNext nullable s t → StepsTo net p t
  to_step t (Call rule level back) at (inl is) = subst (StepsTo net p) (sym is) (into rule level back at)
  to_step t (Call rule level back) at (inr (said, is)) =
      subst (StepsTo net p) (sym is) (past rule level back at ((tells (start_of rule)).0 said))
  to_step t (Decision ts) at has = along t (Decision ts, at, has)
  to_step t (End rule) at has = along t (End rule, at, has)
  to_step t (Edge label u) at has = along t (Edge label u, at, has)
  to_step t (Predicate k u) at has = along t (Predicate k u, at, has)
  to_step t (Level q u) at has = along t (Level q u, at, has)
  to_step t (Action u) at has = along t (Action u, at, has)
  to_step t (Empty u) at has = along t (Empty u, at, has)

  -- an edge
  next_edge : (t : ℕ) (s : State L) → Contains (epsilon_targets s) t → IsNext nullable s t
  next_edge t (Call rule level back) has = absurd (in_nothing t has)
  next_edge t (Decision ts) has = has
  next_edge t (End rule) has = has
  next_edge t (Edge label u) has = has
  next_edge t (Predicate k u) has = has
  next_edge t (Level q u) has = has
  next_edge t (Action u) has = has
  next_edge t (Empty u) has = has

  from_step : (t : ℕ) (s : State L) → state_at net p ≡ Some s → StepsTo net p t → IsNext nullable s t
  from_step _ s at (along t (q, is, has)) = next_edge t s
      (subst (λ (x : State L). Contains (epsilon_targets x) t) (same_Some q s (sym is ∙ at)) has)
  from_step _ s at (into rule level back is) =
      subst (λ (x : State L). IsNext nullable x (start_of rule)) (same_Some (Call rule level back) s (sym is ∙ at)) (inl refl)
  from_step _ s at (past rule level back is n) =
      subst (λ (x : State L). IsNext nullable x back) (same_Some (Call rule level back) s (sym is ∙ at))
      (inr ((tells (start_of rule)).1 n, refl))

  -- what comes next is what a step leads to
  pub next_steps : (s : State L) → state_at net p ≡ Some s → (t : ℕ) → IsNext nullable s t ↔ StepsTo net p t
  next_steps s at t = (to_step t s at, from_step t s at)

-- where a state calls nothing, what comes next is along its edges
pub next_is_edge : {L : Type 0} (nullable : List Bool) (s : State L) → ((rule level back : ℕ) → s ≡ Call rule level back → ⊥)
    → (t : ℕ) → Contains (epsilon_targets s) t ↔ IsNext nullable s t
next_is_edge nullable (Call rule level back) other t = absurd (other rule level back refl)
next_is_edge nullable (Decision ts) other t = (λ h. h, λ h. h)
next_is_edge nullable (End rule) other t = (λ h. h, λ h. h)
next_is_edge nullable (Edge label u) other t = (λ h. h, λ h. h)
next_is_edge nullable (Predicate k u) other t = (λ h. h, λ h. h)
next_is_edge nullable (Level q u) other t = (λ h. h, λ h. h)
next_is_edge nullable (Action u) other t = (λ h. h, λ h. h)
next_is_edge nullable (Empty u) other t = (λ h. h, λ h. h)

module _ {L : Type 0} (net : Network L) where
  -- the lists are what the first states step to
  abbrev pub AreSteps : Graph → Type 0
  AreSteps graph = (p : ℕ) (v : Vec ℕ Global) → slice_get graph p ≡ Some v → (t : ℕ) → Contains v.items t ↔ StepsTo net p t

  -- one more state
  pub steps_more : (nullable : List Bool) → Tells nullable (IsNullable net) → (graph : Graph) (i : ℕ) (s : State L) (v : Vec ℕ Global)
      → length graph ≡ i → state_at net i ≡ Some s → ((t : ℕ) → Contains v.items t ↔ IsNext nullable s t) → AreSteps graph
      → AreSteps (graph ++ v ∷ [])
  steps_more nullable tells graph i s v size here next before p w at t = elim (pushed_cases graph v p w at) [
    | inl old ↦ before p w old t
    | inr (last, same) ↦ (
        let at_p : state_at net p ≡ Some s = ap (state_at net) (last ∙ size) ∙ here in
        let steps = next_steps net nullable tells p s at_p t in
        let this : Contains w.items t ↔ IsNext nullable s t =
        subst (λ (x : Vec ℕ Global). Contains x.items t ↔ IsNext nullable s t) same (next t) in
        (λ h. steps.0 (this.0 h), λ h. this.1 (steps.1 h))
        )
  ]

  -- a state with a step is one of the network's
  step_within : (p t : ℕ) → StepsTo net p t → p < length net.states
  step_within p _ (along t (s, at, has)) = slice_get_within net.states p s at
  step_within p _ (into rule level back at) = slice_get_within net.states p (Call rule level back) at
  step_within p _ (past rule level back at n) = slice_get_within net.states p (Call rule level back) at

  none_past : {X : Type 0} (xs : List X) (k : ℕ) → slice_get xs k ≡ None → length xs ≤ k
  none_past xs k none = elim (slice_get_cases xs k).1 [
    | inl found ↦ absurd (none-some found.0 (sym none ∙ found.2))
    | inr none_there ↦ none_there.0
  ]

  edges_of : (graph : Graph) (p t : ℕ) → length graph ≡ length net.states → AreSteps graph → (o : Option (Vec ℕ Global))
      → slice_get graph p ≡ o → Contains (listed_by o) t ↔ StepsTo net p t
  edges_of graph p t size are (Some v) at = are p v at t
  edges_of graph p t size are None at = (
    λ h. absurd (in_nothing t h),
    λ s. absurd (omega (arith, step_within p t s, size, none_past graph p at)),
  )

  -- the edges are the steps
  pub steps_end : (graph : Graph) → length graph ≡ length net.states → AreSteps graph → (p t : ℕ) → EdgeOf graph p t ↔ StepsTo net p t
  steps_end graph size are p t = edges_of graph p t size are (slice_get graph p) refl
