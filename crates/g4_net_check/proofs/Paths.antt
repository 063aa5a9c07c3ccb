-- A step from state to state is a path of configurations above any stack, so a cycle of steps leads a state above its own stack
-- to itself.
use Rattle.std.proofs.Common.{◌≡◌, ℕ, List, [], ◌∷◌, ◌++◌, Option, Some, Contains, refl, sym, ap, subst, append_assoc}
use Rattle.g4_cycles.specs.Cycles.{Reaches, once as one_edge, further}
use Rattle.g4_net.specs.declared.network.Network.{Network}
use Rattle.g4_net.specs.declared.network.State.{State}
use Rattle.g4_net.specs.declared.network.State.TheVariants.{Decision, End, Edge, Call, Predicate, Level, Action, Empty}
use Rattle.g4_net.specs.Configurations.{Config}
use Rattle.g4_net.specs.Network.{state_at, start_of}
use Rattle.g4_net.specs.Leads.{LeadsBy, LeadsOn, once, again}
use Rattle.g4_net.proofs.Frames.{bottomed}
use Rattle.g4_net_check.specs.Steps.{epsilon_targets, IsNullable, ends, by_edge, by_call, StepsTo, along, into, past, NeverAgain}
use Rattle.g4_net_check.proofs.Lists.{in_nothing, in_one}

module _ {L : Type 0} (net : Network L) where
  -- steps and then steps
  and_on : (c d e : Config) → LeadsOn net c d → LeadsOn net d e → LeadsOn net c e
  and_on c d _ on (once e l) = again d e on l
  and_on c d _ on (again x e more l) = again x e (and_on c d x on more) l

  module _ (i : ℕ) where
    -- an edge that reads nothing and calls nothing
    edge_by : (p t : ℕ) (rs : List ℕ) (s : State L) → Contains (epsilon_targets s) t
        → LeadsBy net (Some s) (bottomed p i rs) (bottomed t i rs)
    edge_by p t rs (Decision targets) has = (t, has, refl)
    edge_by p t rs (End rule) has = absurd (in_nothing t has)
    edge_by p t rs (Edge label u) has = absurd (in_nothing t has)
    edge_by p t rs (Call rule level back) has = absurd (in_nothing t has)
    edge_by p t rs (Predicate k u) has = ap (λ (x : ℕ). bottomed x i rs) (sym (in_one u t has))
    edge_by p t rs (Level q u) has = ap (λ (x : ℕ). bottomed x i rs) (sym (in_one u t has))
    edge_by p t rs (Action u) has = ap (λ (x : ℕ). bottomed x i rs) (sym (in_one u t has))
    edge_by p t rs (Empty u) has = ap (λ (x : ℕ). bottomed x i rs) (sym (in_one u t has))

    edge_leads : (p t : ℕ) (s : State L) (rs : List ℕ) → state_at net p ≡ Some s → Contains (epsilon_targets s) t
        → LeadsOn net (bottomed p i rs) (bottomed t i rs)
    edge_leads p t s rs is has = once (bottomed t i rs)
        (subst (λ (o : Option (State L)). LeadsBy net o (bottomed p i rs) (bottomed t i rs)) (sym is) (edge_by p t rs s has))

    -- a call
    call_leads : (p rule level back : ℕ) (rs : List ℕ) → state_at net p ≡ Some (Call rule level back)
        → LeadsOn net (bottomed p i rs) (bottomed (start_of rule) i (back ∷ rs))
    call_leads p rule level back rs is = once (bottomed (start_of rule) i (back ∷ rs))
        (subst (λ (o : Option (State L)). LeadsBy net o (bottomed p i rs) (bottomed (start_of rule) i (back ∷ rs))) (sym is) refl)

    -- the end of a rule
    end_leads : (p rule t : ℕ) (rs : List ℕ) → state_at net p ≡ Some (End rule) → LeadsOn net (bottomed p i (t ∷ rs)) (bottomed t i rs)
    end_leads p rule t rs is = once (bottomed t i rs)
        (subst (λ (o : Option (State L)). LeadsBy net o (bottomed p i (t ∷ rs)) (bottomed t i rs)) (sym is) refl)

    -- a nullable state leads to the newest return state
    returns : (p : ℕ) → IsNullable net p → (t : ℕ) (rs : List ℕ) → LeadsOn net (bottomed p i (t ∷ rs)) (bottomed t i rs)
    returns _ (ends p rule is) t rs = end_leads p rule t rs is
    returns _ (by_edge p u (s, is, has) n) t rs = and_on _ _ _ (edge_leads p u s (t ∷ rs) is has) (returns u n t rs)
    returns _ (by_call p rule level back is m n) t rs =
        and_on _ _ _ (call_leads p rule level back (t ∷ rs) is)
        (and_on _ _ _ (returns (start_of rule) m back (t ∷ rs)) (returns back n t rs))

    -- the state leads above any stack to the other, with some return states more
    abbrev Climbs : ℕ → ℕ → Type 0
    Climbs p t = (more : List ℕ) × ((rs : List ℕ) → LeadsOn net (bottomed p i rs) (bottomed t i (more ++ rs)))

    step_climbs : (p t : ℕ) → StepsTo net p t → Climbs p t
    step_climbs p _ (along t (s, is, has)) = ([], λ rs. edge_leads p t s rs is has)
    step_climbs p _ (into rule level back is) = (back ∷ [], λ rs. call_leads p rule level back rs is)
    step_climbs p _ (past rule level back is n) =
        ([], λ rs. and_on _ _ _ (call_leads p rule level back rs is) (returns (start_of rule) n back rs))

    steps_climb : (p t : ℕ) → Reaches (StepsTo net) p t → Climbs p t
    steps_climb _ _ (one_edge p t s) = step_climbs p t s
    steps_climb _ _ (further p q t s more) =
        let first = step_climbs p q s in
        let rest = steps_climb q t more in (
          rest.0 ++ first.0,
          λ rs. and_on (bottomed p i rs) (bottomed q i (first.0 ++ rs)) (bottomed t i ((rest.0 ++ first.0) ++ rs)) (first.1 rs)
              (subst (λ (l : List ℕ). LeadsOn net (bottomed q i (first.0 ++ rs)) (bottomed t i l))
              (sym (append_assoc rest.0 first.0 rs)) (rest.1 (first.0 ++ rs))),
        )

  -- where no state leads above its own stack to itself, no state is on a cycle of steps
  pub no_cycle : NeverAgain net → (p : ℕ) → Reaches (StepsTo net) p p → ⊥
  no_cycle never p cycle = let climbs = steps_climb 0 p p cycle in never p 0 (climbs.0 ++ []) (climbs.1 [])
