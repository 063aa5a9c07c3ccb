-- The alternatives whose first tests are true at a moment, as digits and as a list.
use Rattle.std.proofs.Common.{◌≡◌, ◌<◌, ◌≤◌, ◌↔◌, ◌⊎◌, inl, inr, ℕ, zero, suc, ◌+◌, ◌-◌, ◌*◌, ◌^◌, List, [], ◌∷◌, ◌++◌, All, Bool, true, false, IsTrue, Option, Some, None, Contains, drop, get_or, length, slice_get, refl, sym, ◌∙◌, ap, subst, arith, add-one, true≢false}
use Rattle.std.proofs.lemmas.Option.{slice_get_within}
use Rattle.std.proofs.lemmas.Bool.{cases_Bool}
use Rattle.std.proofs.lemmas.List.{drop_more}
use Rattle.std.proofs.Math.Pow.{pow_mono}
use Rattle.std.proofs.lemmas.List.Elements.{All-contains_itself, All-weaker, Contains-append_left, Contains-push, Contains-push_cases}
use Rattle.g4_guards.proofs.Digits.{free_first, free_later, test_first, test_later, tests_free, tests_test}
use Rattle.g4_guards.specs.Levels.{AllowedAt, HasDigit, IsCondition, any_level, at_level, by_digit, few_digits}
use Rattle.g4_guards.specs.Tests.{HasFewTests, HasNoPredicate, HasTests, is_test, tests_among}
use Rattle.g4_guards.specs.declared.tests.Tests.TheVariants.{Many}
use Rattle.g4_net.proofs.Ranks.{rank, rank_falls}
use Rattle.g4_net.specs.Configurations.{above_bottom, config}
use Rattle.g4_net.specs.Leads.{Leads, WellFormed}
use Rattle.g4_net.specs.Loops.{HasLoops}
use Rattle.g4_net.specs.Network.{ParserNetwork, state_at, IsFirst}
use Rattle.g4_net.specs.Prediction.{IsTestBy}
use Rattle.g4_net.specs.declared.network.State.{State}
use Rattle.g4_net.specs.declared.network.State.TheVariants.{Decision, End, Edge, Call, Predicate, Level, Action, Empty}
use Rattle.g4_parse.specs.Teaching.{IsConditionAt}
use Rattle.g4_parse.specs.Tested.{PassesAmong}
use Rattle.g4_run.proofs.Allowing.{allowed_same}
use Rattle.g4_run.specs.Running.{AllowsAt, Passes, Run, Values, deepest, level_holds, level_of, no_test, open_rules, predicate_holds}

-- what is no test has none to pass
pub untested_passes : (net : ParserNetwork) (values : Values) (word : List ℕ) (r : Run) (t : ℕ) → is_test (state_at net t) ≡ false
    → Passes net values word r t
untested_passes net values word r t free = no_test t (λ test. by (state_at net t) free test)
  where
    by : (o : Option (State (List ℕ))) → is_test o ≡ false → IsTestBy o → ⊥
    by (Some (Predicate k u)) e h = let no : ⊥ = cc in no
    by (Some (Level q u)) e h = let no : ⊥ = cc in no
    by (Some (Decision ts)) e h = h
    by (Some (End rule)) e h = h
    by (Some (Edge set u)) e h = h
    by (Some (Call rule level back)) e h = h
    by (Some (Action u)) e h = h
    by (Some (Empty u)) e h = h
    by None e h = h

module _ (net : ParserNetwork) (values : Values) (word : List ℕ) (r : Run) (p k t : ℕ) (is : state_at net p ≡ Some (Predicate k t)) where
  value_of : Passes net values word r p → (values k (open_rules r) r.place ≡ true) × Passes net values word r t
  value_of (no_test _ none) = absurd (none (subst IsTestBy (sym is) tt))
  value_of (predicate_holds _ n u at holds more) =
      let number : n ≡ k = cc in
      let target : u ≡ t = cc in
      (subst (λ (m : ℕ). values m (open_rules r) r.place ≡ true) number holds, subst (Passes net values word r) target more)
  value_of (level_holds _ q u at low more) = absurd (let no : ⊥ = cc in no)

  -- a predicate that is true, and one that is false
  pub passes_predicate : values k (open_rules r) r.place ≡ true → Passes net values word r p ↔ Passes net values word r t
  passes_predicate holds = ((λ h. (value_of h).1), λ h. predicate_holds p k t is holds h)

  pub fails_predicate : values k (open_rules r) r.place ≡ false → Passes net values word r p → ⊥
  fails_predicate fails h = true≢false (sym (value_of h).0 ∙ fails)

module _ (net : ParserNetwork) (values : Values) (word : List ℕ) (r : Run) (p q t : ℕ) (is : state_at net p ≡ Some (Level q t)) where
  level_under : Passes net values word r p → (level_of r.frames ≤ q) × Passes net values word r t
  level_under (no_test _ none) = absurd (none (subst IsTestBy (sym is) tt))
  level_under (predicate_holds _ n u at holds more) = absurd (let no : ⊥ = cc in no)
  level_under (level_holds _ n u at low more) =
      let level : n ≡ q = cc in
      let target : u ≡ t = cc in
      (subst (λ (m : ℕ). level_of r.frames ≤ m) level low, subst (Passes net values word r) target more)

  -- a level that is true
  pub passes_level : level_of r.frames ≤ q → Passes net values word r p ↔ Passes net values word r t
  passes_level low = ((λ h. (level_under h).1), λ h. level_holds p q t is low h)

-- `P` says of a first state that its tests are true
module _ (net : ParserNetwork) (P : ℕ → Type 0) where
  -- the number has a digit for each first state that is a test, and it is 1 where the tests are true
  abbrev pub AreDigits : List ℕ → ℕ → Type 0
  AreDigits ts n = (k t : ℕ) → slice_get ts k ≡ Some t → HasDigit net ts n (suc k) ↔ P t

  pub digits_none : (n : ℕ) → AreDigits [] n
  digits_none n k t at = absurd (let no : ⊥ = cc in no)

  pub digits_test : (t m n b : ℕ) (ts : List ℕ) → is_test (state_at net t) ≡ true → n ≡ 2 * m + b → b < 2 → (b ≡ 1) ↔ P t
      → AreDigits ts m → AreDigits (t ∷ ts) n
  digits_test t m n b ts test is small here are zero u at =
      let same : t ≡ u = cc in
      let first = test_first net t ts n m b test is small in
      ((λ has. subst P same (here.0 (first.0 has))), λ p. first.1 (here.1 (subst P (sym same) p)))
  digits_test t m n b ts test is small here are (suc k) u at =
      let later = test_later net t ts n m b k test is small in
      let more = are k u at in
      ((λ has. more.0 (later.0 has)), λ p. later.1 (more.1 p))

  pub digits_free : (t n : ℕ) (ts : List ℕ) → is_test (state_at net t) ≡ false → P t → AreDigits ts n → AreDigits (t ∷ ts) n
  digits_free t n ts free p are zero u at =
      let same : t ≡ u = cc in ((λ has. subst P same p), λ q. free_first net t ts n free)
  digits_free t n ts free p are (suc k) u at =
      let later = free_later net t ts n k free in
      let more = are k u at in
      ((λ has. more.0 (later.0 has)), λ q. later.1 (more.1 q))

-- how many tests there are from a place on
tests_before : (net : ParserNetwork) (t n : ℕ) (ts : List ℕ) → n ≤ tests_among net ts → n ≤ tests_among net (t ∷ ts)
tests_before net t n ts less = by (cases_Bool (is_test (state_at net t)))
  where
    by : (is_test (state_at net t) ≡ true) ⊎ (is_test (state_at net t) ≡ false) → n ≤ tests_among net (t ∷ ts)
    by (inl test) = omega (arith, less, tests_test net t ts test)
    by (inr free) = omega (arith, less, tests_free net t ts free)

pub tests_after : (net : ParserNetwork) (k : ℕ) (ts : List ℕ) → tests_among net (drop k ts) ≤ tests_among net ts
tests_after net zero ts = omega arith
tests_after net (suc k) [] = omega arith
tests_after net (suc k) (t ∷ ts) = tests_before net t (tests_among net (drop k ts)) ts (tests_after net k ts)

-- a place and those after it
pub split_at : (ts : List ℕ) (place : ℕ) → 0 < place → place ≤ length ts → drop (place - 1) ts ≡ get_or ts (place - 1) 0 ∷ drop place ts
split_at ts place some within =
    let next : place - 1 + 1 ≡ place = omega (arith, some) in
    drop_more ts (place - 1) 0 (omega (arith, some, within)) ∙ ap (λ (k : ℕ). get_or ts (place - 1) 0 ∷ drop k ts) next

-- a digit is 1 where the tests are true
pub digit_small : (b : ℕ) (holds : Bool) → ((holds ≡ true) × (b ≡ 1)) ⊎ ((holds ≡ false) × (b ≡ 0)) → b < 2
digit_small b holds (inl (is, one)) = omega (arith, one)
digit_small b holds (inr (is, none)) = omega (arith, none)

pub digit_says : (b : ℕ) (holds : Bool) (P : Type 0) → ((holds ≡ true) × (b ≡ 1)) ⊎ ((holds ≡ false) × (b ≡ 0)) → IsTrue holds ↔ P
    → (b ≡ 1) ↔ P
digit_says b holds P (inl (is, one)) same = ((λ e. same.0 is), λ p. one)
digit_says b holds P (inr (is, none)) same = (
  (λ e. absurd (omega (arith, e, none))),
  λ p. absurd (let it_is : holds ≡ true = same.1 p in true≢false (sym it_is ∙ is)),
)

-- one digit more stays small, there being no more than 31
pub digit_fits : (net : ParserNetwork) (t n : ℕ) (ts : List ℕ) → is_test (state_at net t) ≡ true → tests_among net (t ∷ ts) ≤ 31
    → n < 2 ^ tests_among net ts → n < 2 ^ 30
digit_fits net t n ts test few small =
    let count = tests_test net t ts test in
    let more = pow_mono {i = tests_among net ts} {j = 30} (omega (arith, count, few)) in
    omega (arith, small, more)

-- the number that has these digits is a condition of the moment
pub few_condition : (net : ParserNetwork) (values : Values) (word : List ℕ) (r : Run) (targets : List ℕ) (n : ℕ)
    → (HasNoPredicate net r.state → ⊥) → HasFewTests net r.state targets → n < 2 ^ tests_among net targets
    → AreDigits net (Passes net values word r) targets n → IsConditionAt net values word r n
few_condition net values word r targets n some few small are =
    record { is = few_digits targets some few small; allows = λ i. (to i, from i) }
  where
    by : (i t : ℕ) → IsFirst net r.state i t → HasDigit net targets n i ↔ Passes net values word r t
    by i t (us, k, at, got, is) =
        let same : us ≡ targets = (let e = sym at ∙ few.0 in cc) in
        let there : slice_get targets k ≡ Some t = subst (λ (xs : List ℕ). slice_get xs k ≡ Some t) same got in
        let number : i ≡ suc k = is ∙ add-one k in
        let digit = are k t there in (
          (λ has. digit.0 (subst (λ (j : ℕ). HasDigit net targets n j) number has)),
          λ p. subst (λ (j : ℕ). HasDigit net targets n j) (sym number) (digit.1 p),
        )

    to : (i : ℕ) → AllowedAt net r.state n i → AllowsAt net values word r i
    to i (t, first, at_level none meets) = absurd (some none)
    to i (t, first, by_digit us others at has) =
        let same : us ≡ targets = (let e = sym at ∙ few.0 in cc) in
        (t, first, (by i t first).0 (subst (λ (xs : List ℕ). HasDigit net xs n i) same has))

    from : (i : ℕ) → AllowsAt net values word r i → AllowedAt net r.state n i
    from i (t, first, passes) = (t, first, by_digit targets some few.0 ((by i t first).1 passes))

-- and where there are no predicates the level of the open rule is
pub level_condition : (net : ParserNetwork) → HasLoops net → (values : Values) (word : List ℕ) (r : Run) → HasNoPredicate net r.state
    → IsConditionAt net values word r (level_of r.frames)
level_condition net loops values word r none = record { is = any_level none; allows = allowed_same net loops values word r none }

-- a decision with many tests has no condition
pub many_unconditioned : (net : ParserNetwork) (d n : ℕ) → HasTests net d Many → IsCondition net d n → ⊥
many_unconditioned net d n many (any_level none) = many.0 none
many_unconditioned net d n many (few_digits targets some few small) =
    let same : targets ≡ many.1.0 = (let e = sym few.0 ∙ many.1.1.0 in cc) in
    let count : tests_among net targets ≡ tests_among net many.1.0 = ap (tests_among net) same in
    omega (arith, count, few.1, many.1.1.1)

-- a run of tests ends
pub tests_fall : (net : ParserNetwork) → WellFormed net → (p t : ℕ) → p < length net.states
    → Leads net (config p 0 (above_bottom [])) (config t 0 (above_bottom []))
    → rank net deepest (config t 0 (above_bottom [])) < rank net deepest (config p 0 (above_bottom []))
tests_fall net well p t within leads =
    rank_falls net deepest (config p 0 (above_bottom [])) (config t 0 (above_bottom [])) well
    (record { within = (within, λ i d less. absurd (omega (arith, less))); first = refl; bottomed = refl; short = omega arith }) leads

-- the alternatives among the first n whose tests are true, one more at a time
module _ (net : ParserNetwork) (values : Values) (word : List ℕ) (r : Run) (ts : List ℕ) (n t : ℕ) (found : List ℕ)
    (at_n : slice_get ts n ≡ Some t) where
  split : (k : ℕ) → k < n + 1 → (k < n) ⊎ (k ≡ n)
  split k less = grind arith

  further : (i : ℕ) → PassesAmong net values word r ts n i → PassesAmong net values word r ts (n + 1) i
  further i (k, u, less, at_k, number, passes) = (k, u, omega (arith, less), at_k, number, passes)

  nearer : (i : ℕ) → PassesAmong net values word r ts (n + 1) i
      → PassesAmong net values word r ts n i ⊎ ((i ≡ n + 1) × Passes net values word r t)
  nearer i (k, u, less, at_k, number, passes) = elim (split k less) [
    | inl before ↦ inl (k, u, before, at_k, number, passes)
    | inr is ↦ inr (
      number ∙ ap (λ (m : ℕ). m + 1) is,
      let same : u ≡ t = same_state u k is at_k in subst (Passes net values word r) same passes,
    )
  ]
    where
      same_state : (u k : ℕ) → k ≡ n → slice_get ts k ≡ Some u → u ≡ t
      same_state u k is at = cc

  pub passing_push : Passes net values word r t → ((i : ℕ) → Contains found i ↔ PassesAmong net values word r ts n i)
      → (i : ℕ) → Contains (found ++ (n + 1) ∷ []) i ↔ PassesAmong net values word r ts (n + 1) i
  passing_push passes are i = (to, from)
    where
      to : Contains (found ++ (n + 1) ∷ []) i → PassesAmong net values word r ts (n + 1) i
      to has = elim (Contains-push_cases found (n + 1) i has) [
        | inl j ↦ further i ((are i).0 j)
        | inr is ↦ (n, t, omega arith, at_n, sym is, passes)
      ]

      from : PassesAmong net values word r ts (n + 1) i → Contains (found ++ (n + 1) ∷ []) i
      from h = elim (nearer i h) [
        | inl j ↦ Contains-append_left found ((n + 1) ∷ []) i ((are i).1 j)
        | inr x ↦ subst (Contains (found ++ (n + 1) ∷ [])) (sym x.0) (Contains-push found (n + 1))
      ]

  pub passing_skip : (Passes net values word r t → ⊥) → ((i : ℕ) → Contains found i ↔ PassesAmong net values word r ts n i)
      → (i : ℕ) → Contains found i ↔ PassesAmong net values word r ts (n + 1) i
  passing_skip fails are i = (
    (λ has. further i ((are i).0 has)),
    λ h. elim (nearer i h) [ inl j ↦ (are i).1 j | inr x ↦ absurd (fails x.1) ],
  )

-- the alternatives of a decision that are listed so are those that the moment allows
pub listed_allows : (net : ParserNetwork) (values : Values) (word : List ℕ) (r : Run) (targets found : List ℕ)
    → state_at net r.state ≡ Some (Decision targets)
    → ((i : ℕ) → Contains found i ↔ PassesAmong net values word r targets (length targets) i)
    → (i t : ℕ) → IsFirst net r.state i t → Contains found i ↔ AllowsAt net values word r i
listed_allows net values word r targets found decides are i t first = (to, from)
  where
    to : Contains found i → AllowsAt net values word r i
    to has =
        let (k, u, less, at, number, passes) = (are i).0 has in
        (u, (targets, k, decides, at, number), passes)

    from : AllowsAt net values word r i → Contains found i
    from (u, (us, k, at, got, number), passes) =
        let same : us ≡ targets = (let e = sym at ∙ decides in cc) in
        let there : slice_get targets k ≡ Some u = subst (λ (xs : List ℕ). slice_get xs k ≡ Some u) same got in
        (are i).1 (k, u, slice_get_within targets k u there, there, number, passes)

-- the first states of a decision are states
pub first_states_within : (net : ParserNetwork) (d : ℕ) (targets : List ℕ) → WellFormed net → state_at net d ≡ Some (Decision targets)
    → All (λ t. t < length net.states) targets
first_states_within net d targets well at_d =
    All-weaker (Contains targets) (λ (t : ℕ). t < length net.states) (λ t has. well.targets d t (Decision targets) at_d has) targets
    (All-contains_itself targets)

-- few of the first states of a decision are tests, whichever they are
pub few_of : (net : ParserNetwork) (d : ℕ) (targets : List ℕ) → state_at net d ≡ Some (Decision targets)
    → (us : List ℕ) × HasFewTests net d us → HasFewTests net d targets
few_of net d targets decides (us, few) =
    let same : us ≡ targets = (let e = sym few.0 ∙ decides in cc) in subst (λ (xs : List ℕ). HasFewTests net d xs) same few
