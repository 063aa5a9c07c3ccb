-- A network without calls whose levels only decisions lead to has its levels in loops: there is no rule.
use Rattle.std.proofs.Common.{◌≡◌, ◌<◌, ℕ, List, [], Bool, true, false, Option, Some, None, Contains, get_or, length, slice_get, refl, sym, ◌∙◌, ap, subst, arith}
use Rattle.std.specs.List.{list_any}
use Rattle.std.proofs.lemmas.List.Folds.{list_any_at}
use Rattle.std.proofs.lemmas.Option.{get_or_from_slice_get, slice_get_within}
use Rattle.g4_net.specs.declared.network.State.{State}
use Rattle.g4_net.specs.declared.network.State.TheVariants.{Decision, End, Edge, Call, Predicate, Level, Action, Empty}
use Rattle.g4_net.specs.Leads.{IsTarget}
use Rattle.g4_net.specs.Loops.{HasLoops}
use Rattle.g4_net.specs.Network.{ParserNetwork, state_at}
use Rattle.g4_learned_tests.specs.Leading.{is_level, leads_to_level}

module _ (net : ParserNetwork) (none : net.callers ≡ []) (plain : list_any (leads_to_level net) net.states ≡ false) where
  state_plain : (p : ℕ) (s : State (List ℕ)) → state_at net p ≡ Some s → leads_to_level net s ≡ true → ⊥
  state_plain p s at leads =
      let less = slice_get_within net.states p s at in
      let here : get_or net.states p s ≡ s = get_or_from_slice_get net.states p s s at in
      let yes = list_any_at (leads_to_level net) net.states p s less (ap (leads_to_level net) here ∙ leads) in
      absurd (cc)

  level_at : (t u q v : ℕ) → t ≡ u → state_at net t ≡ Some (Level q v) → is_level (state_at net u) ≡ true
  level_at t u q v same at = ap (λ (x : ℕ). is_level (state_at net x)) (sym same) ∙ ap is_level at

  decided : (p t q v : ℕ) (s : State (List ℕ)) → state_at net p ≡ Some s → IsTarget s t → state_at net t ≡ Some (Level q v)
      → (targets : List ℕ) × (s ≡ Decision targets)
  decided p t q v (Decision targets) at is level = (targets, refl)
  decided p t q v (End rule) at is level = absurd is
  decided p t q v (Edge set u) at is level = absurd (state_plain p (Edge set u) at (level_at t u q v is level))
  decided p t q v (Call rule n back) at is level = absurd (state_plain p (Call rule n back) at refl)
  decided p t q v (Predicate k u) at is level = absurd (state_plain p (Predicate k u) at (level_at t u q v is level))
  decided p t q v (Level n u) at is level = absurd (state_plain p (Level n u) at (level_at t u q v is level))
  decided p t q v (Action u) at is level = absurd (state_plain p (Action u) at (level_at t u q v is level))
  decided p t q v (Empty u) at is level = absurd (state_plain p (Empty u) at (level_at t u q v is level))

  pub plain_levels : HasLoops net
  plain_levels = record {
    decided = decided;
    starts = λ p rule level back q v at start. state_plain p (Call rule level back) at refl;
    loops = λ k p t q v s less. absurd (let e = ap length none in omega (arith, less, e));
  }
