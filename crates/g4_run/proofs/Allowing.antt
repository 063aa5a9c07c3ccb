-- Where alternatives begin with no tests but levels, which are only behind decisions, a moment allows those that the level of the open
-- rule allows.
use Rattle.std.proofs.Common.{◌≡◌, ◌≤◌, ◌↔◌, ℕ, List, Option, Some, None, sym, subst, refl}
use Rattle.g4_guards.specs.Levels.{AllowedAt, MayBegin, MeetsBy, at_level, by_digit}
use Rattle.g4_guards.specs.Tests.{BeginsTesting, HasNoPredicate, after_level, by_predicate}
use Rattle.g4_net.specs.Loops.{HasLoops}
use Rattle.g4_net.specs.Network.{ParserNetwork, state_at, IsFirst}
use Rattle.g4_net.specs.Prediction.{IsTestBy}
use Rattle.g4_net.specs.declared.network.State.{State}
use Rattle.g4_net.specs.declared.network.State.TheVariants.{Decision, End, Edge, Call, Predicate, Level, Action, Empty}
use Rattle.g4_run.specs.Running.{Run, Values, level_of, Passes, no_test, predicate_holds, level_holds, AllowsAt}

module _ (net : ParserNetwork) (levels : HasLoops net) (values : Values) (word : List ℕ) where
  -- what a level leads to is no level
  no_level : (t q v n u : ℕ) → state_at net t ≡ Some (Level q v) → state_at net v ≡ Some (Level n u) → ⊥
  no_level t q v n u is at =
      let d = levels.decided t v n u (Level q v) is refl at in
      let same : Level q v ≡ Decision d.0 = d.1 in
      let no : ⊥ = cc in no

  -- and no test, where no predicate begins
  behind_none : (t q v : ℕ) → state_at net t ≡ Some (Level q v) → (BeginsTesting net t → ⊥) → IsTestBy (state_at net v) → ⊥
  behind_none t q v is none test = by (state_at net v) refl test
    where
      by : (o : Option (State (List ℕ))) → state_at net v ≡ o → IsTestBy o → ⊥
      by (Some (Level n u)) at h = no_level t q v n u is at
      by (Some (Predicate k u)) at h = none (after_level t q v is (by_predicate v k u at))
      by (Some (Decision ts)) at h = h
      by (Some (End rule)) at h = h
      by (Some (Edge label u)) at h = h
      by (Some (Call rule level back)) at h = h
      by (Some (Action u)) at h = h
      by (Some (Empty u)) at h = h
      by None at h = h

  -- what may be passed at the level passes
  to : (r : Run) (t : ℕ) (o : Option (State (List ℕ))) → state_at net t ≡ o → (BeginsTesting net t → ⊥) → MeetsBy (level_of r.frames) o
      → Passes net values word r t
  to r t (Some (Level q v)) is none meets = level_holds t q v is meets (no_test v (behind_none t q v is none))
  to r t (Some (Predicate k u)) is none meets = absurd (none (by_predicate t k u is))
  to r t (Some (Decision ts)) is none meets = no_test t (λ h. subst IsTestBy is h)
  to r t (Some (End rule)) is none meets = no_test t (λ h. subst IsTestBy is h)
  to r t (Some (Edge label u)) is none meets = no_test t (λ h. subst IsTestBy is h)
  to r t (Some (Call rule level back)) is none meets = no_test t (λ h. subst IsTestBy is h)
  to r t (Some (Action u)) is none meets = no_test t (λ h. subst IsTestBy is h)
  to r t (Some (Empty u)) is none meets = no_test t (λ h. subst IsTestBy is h)
  to r t None is none meets = no_test t (λ h. subst IsTestBy is h)

  -- and what passes at a level is no less
  low : (r : Run) (t q v : ℕ) → state_at net t ≡ Some (Level q v) → (BeginsTesting net t → ⊥) → Passes net values word r t
      → level_of r.frames ≤ q
  low r t q v is none (no_test _ untested) = absurd (untested (subst IsTestBy (sym is) tt))
  low r t q v is none (predicate_holds _ k u at holds more) = absurd (none (by_predicate t k u at))
  low r t q v is none (level_holds _ n u at less more) = let same : n ≡ q = cc in subst (λ (x : ℕ). level_of r.frames ≤ x) same less

  from : (r : Run) (t : ℕ) (o : Option (State (List ℕ))) → state_at net t ≡ o → (BeginsTesting net t → ⊥) → Passes net values word r t
      → MeetsBy (level_of r.frames) o
  from r t (Some (Level q v)) is none passes = low r t q v is none passes
  from r t (Some (Predicate k u)) is none passes = tt
  from r t (Some (Decision ts)) is none passes = tt
  from r t (Some (End rule)) is none passes = tt
  from r t (Some (Edge set u)) is none passes = tt
  from r t (Some (Call rule level back)) is none passes = tt
  from r t (Some (Action u)) is none passes = tt
  from r t (Some (Empty u)) is none passes = tt
  from r t None is none passes = tt

  pub allowed_same : (r : Run) → HasNoPredicate net r.state → (i : ℕ) → AllowedAt net r.state (level_of r.frames) i
      ↔ AllowsAt net values word r i
  allowed_same r none i = (
    (λ (t, first, may). (t, first, by_level t first may)),
    (λ (t, first, passes). (t, first, at_level none (from r t (state_at net t) refl (none i t first) passes))),
  )
    where
      by_level : (t : ℕ) → IsFirst net r.state i t → MayBegin net r.state (level_of r.frames) i t → Passes net values word r t
      by_level t first (at_level _ meets) = to r t (state_at net t) refl (none i t first) meets
      by_level t first (by_digit targets some at has) = absurd (some none)
