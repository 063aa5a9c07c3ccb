-- Which states begin with a predicate, as the code finds it: where levels lead to no levels, one look after a level is enough.
use Rattle.std.proofs.Common.{◌≡◌, ℕ, suc, ◌+◌, List, [], Bool, true, false, Option, Some, None, cond, get_or, length, slice_get, if◌then◌else◌, refl, sym, ◌∙◌, ap, subst, arith}
use Rattle.std.specs.List.{count_by, list_any}
use Rattle.std.proofs.lemmas.List.Folds.{Any-from_list_any, list_any_at}
use Rattle.std.proofs.lemmas.List.Recursion.{is_count_by}
use Rattle.std.proofs.lemmas.Option.{get_or_from_slice_get, slice_get_read, slice_get_within}
use Rattle.g4_net.specs.declared.network.State.{State}
use Rattle.g4_net.specs.declared.network.State.TheVariants.{Decision, End, Edge, Call, Predicate, Level, Action, Empty}
use Rattle.g4_net.specs.Loops.{HasLoops}
use Rattle.g4_net.specs.Network.{ParserNetwork, state_at, IsFirst}
use Rattle.g4_guards.specs.Meeting.{begins_by, firsts_by, is_predicate}
use Rattle.g4_guards.specs.Tests.{BeginsTesting, HasNoPredicate, after_level, by_predicate, is_test, tests_among}

-- a predicate is one
predicate_to : (net : ParserNetwork) (p : ℕ) (o : Option (State (List ℕ))) → state_at net p ≡ o → is_predicate o ≡ true
    → BeginsTesting net p
predicate_to net p (Some (Predicate k t)) at has = by_predicate p k t at
predicate_to net p (Some (Level q t)) at has = absurd (cc)
predicate_to net p (Some (Decision targets)) at has = absurd (cc)
predicate_to net p (Some (End rule)) at has = absurd (cc)
predicate_to net p (Some (Edge set t)) at has = absurd (cc)
predicate_to net p (Some (Call rule level back)) at has = absurd (cc)
predicate_to net p (Some (Action t)) at has = absurd (cc)
predicate_to net p (Some (Empty t)) at has = absurd (cc)
predicate_to net p None at has = absurd (cc)

-- what is found begins with a predicate
begins_to : (net : ParserNetwork) (p : ℕ) (o : Option (State (List ℕ))) → state_at net p ≡ o → begins_by net o ≡ true
    → BeginsTesting net p
begins_to net p (Some (Predicate k t)) at has = by_predicate p k t at
begins_to net p (Some (Level q t)) at has = after_level p q t at (predicate_to net t (state_at net t) refl has)
begins_to net p (Some (Decision targets)) at has = absurd (cc)
begins_to net p (Some (End rule)) at has = absurd (cc)
begins_to net p (Some (Edge set t)) at has = absurd (cc)
begins_to net p (Some (Call rule level back)) at has = absurd (cc)
begins_to net p (Some (Action t)) at has = absurd (cc)
begins_to net p (Some (Empty t)) at has = absurd (cc)
begins_to net p None at has = absurd (cc)

-- and what begins with a predicate is found
begins_from : (net : ParserNetwork) → HasLoops net → (p : ℕ) → BeginsTesting net p → begins_by net (state_at net p) ≡ true
begins_from net loops _ (by_predicate p k t at) = ap (begins_by net) at
begins_from net loops _ (after_level p q t at on) = ap (begins_by net) at ∙ there t at on
  where
    no_level : (t r u : ℕ) → state_at net p ≡ Some (Level q t) → state_at net t ≡ Some (Level r u) → ⊥
    no_level t r u at at' = let d = loops.decided p t r u (Level q t) at refl at' in let is = d.1 in absurd (cc)

    there : (t : ℕ) → state_at net p ≡ Some (Level q t) → BeginsTesting net t → is_predicate (state_at net t) ≡ true
    there _ at (by_predicate t k u at') = ap is_predicate at'
    there _ at (after_level t r u at' on) = absurd (no_level t r u at at')

-- a first state is one of those of the decision
pub first_in : (net : ParserNetwork) (d i t : ℕ) (targets : List ℕ) → targets ≡ firsts_by (state_at net d) → (first : IsFirst net d i t)
    → slice_get targets first.1 ≡ Some t
first_in net d i t targets is (us, k, at, there, number) =
    let same : us ≡ targets = sym (is ∙ ap firsts_by at) in subst (λ (xs : List ℕ). slice_get xs k ≡ Some t) same there

nothing : (targets : List ℕ) (k t : ℕ) → slice_get targets k ≡ Some t → targets ≡ [] → ⊥
nothing targets k t here is = let n = slice_get_within targets k t here in let e = ap length is in omega (arith, n, e)

-- what has first states is a decision
pub decides_by : (net : ParserNetwork) (d k t : ℕ) (o : Option (State (List ℕ))) (targets : List ℕ) → state_at net d ≡ o
    → targets ≡ firsts_by o → slice_get targets k ≡ Some t → state_at net d ≡ Some (Decision targets)
decides_by net d k t (Some (Decision us)) targets at is here = at ∙ ap (λ (xs : List ℕ). Some (Decision xs)) (sym is)
decides_by net d k t (Some (Predicate n u)) targets at is here = absurd (nothing targets k t here is)
decides_by net d k t (Some (Level q u)) targets at is here = absurd (nothing targets k t here is)
decides_by net d k t (Some (End rule)) targets at is here = absurd (nothing targets k t here is)
decides_by net d k t (Some (Edge set u)) targets at is here = absurd (nothing targets k t here is)
decides_by net d k t (Some (Call rule level back)) targets at is here = absurd (nothing targets k t here is)
decides_by net d k t (Some (Action u)) targets at is here = absurd (nothing targets k t here is)
decides_by net d k t (Some (Empty u)) targets at is here = absurd (nothing targets k t here is)
decides_by net d k t None targets at is here = absurd (nothing targets k t here is)

module _ (net : ParserNetwork) (d : ℕ) (targets : List ℕ) (is : targets ≡ firsts_by (state_at net d)) where
  -- none begins with a predicate
  pub none_begins : HasLoops net → list_any (λ t. begins_by net (state_at net t)) targets ≡ false → HasNoPredicate net d
  none_begins loops none i t first begins =
      let there = first_in net d i t targets is first in
      let less = slice_get_within targets first.1 t there in
      let here : get_or targets first.1 0 ≡ t = get_or_from_slice_get targets first.1 t 0 there in
      let yes = list_any_at (λ u. begins_by net (state_at net u)) targets first.1 0 less
      (ap (λ (u : ℕ). begins_by net (state_at net u)) here ∙ begins_from net loops t begins) in
      absurd (cc)

  -- some alternative begins with one
  pub some_begins : list_any (λ t. begins_by net (state_at net t)) targets ≡ true
      → (state_at net d ≡ Some (Decision targets)) × (HasNoPredicate net d → ⊥)
  some_begins has =
      let (k, t, less, at, begins) = Any-from_list_any (λ u. begins_by net (state_at net u)) targets has in
      let here : slice_get targets k ≡ Some t = slice_get_read targets (length targets) k t refl less (sym at) in
      let decides = decides_by net d k t (state_at net d) targets refl is here in (
        decides,
        λ none. none (k + 1) t (targets, k, decides, here, refl) (begins_to net t (state_at net t) refl begins),
      )

-- the tests are counted
pub count_tests : (net : ParserNetwork) (ts : List ℕ) → count_by (λ t. is_test (state_at net t)) ts ≡ tests_among net ts
count_tests net ts = sym (is_count_by (tests_among net) (λ t. is_test (state_at net t)) refl (λ t us. by (is_test (state_at net t)) us) ts)
  where
    by : (b : Bool) (us : List ℕ) → (if b then suc (tests_among net us) else tests_among net us)
        ≡ cond b (1 + tests_among net us) (tests_among net us)
    by true us = let e : suc (tests_among net us) ≡ 1 + tests_among net us = omega arith in e
    by false us = refl
