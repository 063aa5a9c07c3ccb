use Rattle.std.proofs.Common.{◌≡◌, ◌≤◌, ◌<◌, ◌⊎◌, inl, inr, ◌∙◌, ℕ, ◌+◌, ◌-◌, ◌*◌, ◌^◌, List, true, false, drop, get_or, refl, sym, subst, arith, length}
use Rattle.g4_guards.proofs.Digits.{test_more, tests_free, tests_test}
use Rattle.g4_guards.specs.Tests.{is_test, tests_among}
use Rattle.g4_net.specs.Network.{ParserNetwork, state_at}
use Rattle.g4_run.specs.Running.{Passes}
use Rattle.g4_parse.proofs.Passing.{AreDigits, digit_fits, digit_says, digit_small, digits_free, digits_test, split_at, tests_after, untested_passes}
use Rattle.g4_parse.proofs.parser.Parser.digits.Goals as goal
use Rattle.g4_parse.proofs.parser.Parser.digits.Goals.{then-passes, else-passes}

-- what is known at a first state that is a test
module _ (net : ParserNetwork) (ts : List ℕ) (place number : ℕ) (some : 0 < place) (within : place ≤ length ts)
    (test : is_test (state_at net (get_or ts (place - 1) 0)) ≡ true) (few : tests_among net ts ≤ 31)
    (small : number < 2 ^ tests_among net (drop place ts)) where
  fits : number < 2 ^ 30
  fits = digit_fits net (get_or ts (place - 1) 0) number (drop place ts) test
      (subst (λ (xs : List ℕ). tests_among net xs ≤ 31) (split_at ts place some within)
      (omega (arith, tests_after net (place - 1) ts, few))) small

  smaller : (b : ℕ) → b < 2 → 2 * number + b < 2 ^ tests_among net (drop (place - 1) ts)
  smaller b less =
      let count = tests_test net (get_or ts (place - 1) 0) (drop place ts) test in
      subst (λ (xs : List ℕ). 2 * number + b < 2 ^ tests_among net xs) (sym (split_at ts place some within))
      (subst (λ (k : ℕ). 2 * number + b < 2 ^ k) (sym count)
      (test_more net (get_or ts (place - 1) 0) (drop place ts) (2 * number + b) number b (tests_among net (drop place ts)) small less))

pub loop-place-preserved-then-not-is_test_at : goal.loop-place-preserved-then-not-is_test_at
loop-place-preserved-then-not-is_test_at g c =
    let net = c.args.net.now in
    let ts : List ℕ = c.args.targets.now in
    let place = c.loop-place.place in
    let t : ℕ = get_or ts (place - 1) 0 in
    let n = c.loop-place.number in
    let values = g.P.Predicates.values c.args.predicates.now in
    let rest = split_at ts place c.loop-place-test.true c.loop-place.auto.place in
    let free : is_test (state_at net t) ≡ false = sym c.is_test_at.ensures ∙ c.if-not-is_test_at.true in
    let count = tests_free net t (drop place ts) free in
    record {
      small = subst (λ (xs : List ℕ). n < 2 ^ tests_among net xs) (sym rest)
          (subst (λ (k : ℕ). n < 2 ^ k) (sym count) c.loop-place.invariant.small);
      digits = λ word r h. subst (λ (xs : List ℕ). AreDigits net (Passes net values word r) xs n) (sym rest)
          (digits_free net (Passes net values word r) t n (drop place ts) free (untested_passes net values word r t free)
          (c.loop-place.invariant.digits word r h));
    }

pub overflow_mul-number : goal.overflow_mul-number
overflow_mul-number g c =
    let test : is_test (state_at c.args.net.now (get_or c.args.targets.now (c.loop-place.place - 1) 0)) ≡ true =
    sym c.is_test_at.ensures ∙ c.if-not-is_test_at.false in
    omega (
      arith,
      fits c.args.net.now c.args.targets.now c.loop-place.place c.loop-place.number c.loop-place-test.true
          c.loop-place.auto.place test c.requires.few c.loop-place.invariant.small,
    )

pub overflow_add-number : goal.overflow_add-number
overflow_add-number g c =
    let test : is_test (state_at c.args.net.now (get_or c.args.targets.now (c.loop-place.place - 1) 0)) ≡ true =
    sym c.is_test_at.ensures ∙ c.if-not-is_test_at.false in
    let b : (c.passes.result ≡ true) × (c.if-passes.digit ≡ 1) ⊎ ((c.passes.result ≡ false) × (c.if-passes.digit ≡ 0)) =
    elim c.if-passes.branch [
      | then-passes w ↦ inl (w.if-passes.true, w.digit-is)
      | else-passes w ↦ inr (w.if-passes.false, w.digit-is)
    ] in
    omega (
      arith,
      digit_small c.if-passes.digit c.passes.result b,
      fits c.args.net.now c.args.targets.now c.loop-place.place
          c.loop-place.number c.loop-place-test.true c.loop-place.auto.place test c.requires.few c.loop-place.invariant.small,
    )

pub loop-place-preserved : goal.loop-place-preserved
loop-place-preserved g c =
    let net = c.args.net.now in
    let ts : List ℕ = c.args.targets.now in
    let place = c.loop-place.place in
    let t : ℕ = get_or ts (place - 1) 0 in
    let n = c.loop-place.number in
    let digit = c.if-passes.digit in
    let values = g.P.Predicates.values c.args.predicates.now in
    let rest = split_at ts place c.loop-place-test.true c.loop-place.auto.place in
    let test : is_test (state_at net t) ≡ true = sym c.is_test_at.ensures ∙ c.if-not-is_test_at.false in
    let b : (c.passes.result ≡ true) × (digit ≡ 1) ⊎ ((c.passes.result ≡ false) × (digit ≡ 0)) =
    elim c.if-passes.branch [
      | then-passes w ↦ inl (w.if-passes.true, w.digit-is)
      | else-passes w ↦ inr (w.if-passes.false, w.digit-is)
    ] in
    let less = digit_small digit c.passes.result b in
    record {
      small = smaller net ts place n c.loop-place-test.true c.loop-place.auto.place test c.requires.few c.loop-place.invariant.small
          digit less;
      digits = λ word r h. subst (λ (xs : List ℕ). AreDigits net (Passes net values word r) xs (2 * n + digit)) (sym rest)
          (digits_test net (Passes net values word r) t n (2 * n + digit) digit (drop place ts) test refl less
          (digit_says digit c.passes.result (Passes net values word r t) b (c.passes.ensures word r h))
          (c.loop-place.invariant.digits word r h));
    }
