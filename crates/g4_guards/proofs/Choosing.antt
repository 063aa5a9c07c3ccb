-- A decision has at most one choice, and chooses the least alternative that fits, where some does.
use Rattle.std.proofs.Common.{◌≡◌, ◌↔◌, ℕ, List, ap, refl, arith}
use Rattle.g4_fits.specs.Fitting.{IsLeastThatFits, SomeFits}
use Rattle.g4_fits.proofs.Arriving.{CalledAreOwn, LastIsOwn}
use Rattle.g4_fits.proofs.Choosing.{full_chooses, sll_answers, sll_no_error}
use Rattle.g4_lookahead.proofs.OneChoice.{one_full, one_sll}
use Rattle.g4_net.specs.Configurations.{Stack, above_bottom}
use Rattle.g4_net.specs.Lookahead.{Start}
use Rattle.g4_net.specs.Network.{ParserNetwork}
use Rattle.g4_net.specs.Prediction.{Choice, Full, answer, chosen, error_at, sensitive}
use Rattle.g4_net.specs.Proper.{IsProper}
use Rattle.g4_guards.specs.Choosing.{Chooses, IsGuarded, by_answer, by_error, by_full, unguarded}
use Rattle.g4_guards.specs.Levels.{IsCondition, any_level, few_digits}
use Rattle.g4_guards.specs.Tests.{HasTests, tests_among}
use Rattle.g4_guards.specs.declared.tests.Tests.TheVariants.{Many}
use Rattle.g4_guards.proofs.Same.{full_over, sll_over}

pub chooses_least : (net : ParserNetwork) → LastIsOwn net → CalledAreOwn net → (d : ℕ) (A : ℕ → Type 0) (returns w : List ℕ)
    → IsProper net d returns → (c : Choice) → SomeFits net d A returns w → Chooses net d A (above_bottom returns) w c
    → (i : ℕ) × (c ≡ chosen i) × IsLeastThatFits net d A returns w i
chooses_least net own all_own d A returns w proper _ some (by_answer i path g s) =
    let r = sll_answers net own d A returns w proper all_own i path some s in (
      i,
      refl,
      record { allowed = r.allowed; fits = r.fits; least = λ k b f. let is = r.only k b f in omega (arith, is) },
    )
chooses_least net own all_own d A returns w proper _ some (by_error k path g s) =
    absurd (sll_no_error net own d A returns w proper all_own k path some s)
chooses_least net own all_own d A returns w proper _ some (by_full k path c g s full) =
    full_chooses net own d A returns w proper c some full
chooses_least net own all_own d A returns w proper _ some (unguarded c none full) =
    full_chooses net own d A returns w proper c some full

module _ (net : ParserNetwork) (d : ℕ) (A : ℕ → Type 0) (z : Stack) (w : List ℕ) where
  one_full_over : (b c : Choice) → Full net d A z w b → Full net d A z w c → b ≡ c
  one_full_over b c h g = one_full net (Start net d A z) w 0 b c h g

  -- a decision has at most one choice
  pub one_chosen : (b c : Choice) → Chooses net d A z w b → Chooses net d A z w c → b ≡ c
  one_chosen _ _ (by_answer i p n s) (by_answer j q m t) = let e : answer i ≡ answer j = (one_sll net d A w _ _ p q s t).0 in cc
  one_chosen _ _ (by_answer i p n s) (by_error k q m t) = let e : answer i ≡ error_at k = (one_sll net d A w _ _ p q s t).0 in cc
  one_chosen _ _ (by_answer i p n s) (by_full k q c m t f) = let e : answer i ≡ sensitive k = (one_sll net d A w _ _ p q s t).0 in cc
  one_chosen _ _ (by_answer i p n s) (unguarded c none f) = absurd (none n)
  one_chosen _ _ (by_error k p n s) (by_answer j q m t) = let e : error_at k ≡ answer j = (one_sll net d A w _ _ p q s t).0 in cc
  one_chosen _ _ (by_error k p n s) (by_error l q m t) = let e : error_at k ≡ error_at l = (one_sll net d A w _ _ p q s t).0 in cc
  one_chosen _ _ (by_error k p n s) (by_full l q c m t f) = let e : error_at k ≡ sensitive l = (one_sll net d A w _ _ p q s t).0 in cc
  one_chosen _ _ (by_error k p n s) (unguarded c none f) = absurd (none n)
  one_chosen _ _ (by_full k p b n s g) (by_answer j q m t) = let e : sensitive k ≡ answer j = (one_sll net d A w _ _ p q s t).0 in cc
  one_chosen _ _ (by_full k p b n s g) (by_error l q m t) = let e : sensitive k ≡ error_at l = (one_sll net d A w _ _ p q s t).0 in cc
  one_chosen _ _ (by_full k p b n s g) (by_full l q c m t f) = one_full_over b c g f
  one_chosen _ _ (by_full k p b n s g) (unguarded c none f) = absurd (none n)
  one_chosen _ _ (unguarded b none g) (by_answer j q m t) = absurd (none m)
  one_chosen _ _ (unguarded b none g) (by_error k q m t) = absurd (none m)
  one_chosen _ _ (unguarded b none g) (by_full k q c m t f) = absurd (none m)
  one_chosen _ _ (unguarded b none g) (unguarded c other f) = one_full_over b c g f

-- a decision with many tests has no guards
pub many_unguarded : (net : ParserNetwork) (d : ℕ) → HasTests net d Many → (A : ℕ → Type 0) → IsGuarded net d A → ⊥
many_unguarded net d (some, (targets, (at, many))) A (n, may, is) = by may
  where
    by : IsCondition net d n → ⊥
    by (any_level none) = some none
    by (few_digits us more few less) =
        let at' = few.0 in
        let same : us ≡ targets = cc in
        let e = ap (tests_among net) same in
        let few' = few.1 in
        omega (arith, few', many, e)

-- a choice over alternatives is that over the same alternatives said in another way
module _ (net : ParserNetwork) (d : ℕ) (A B : ℕ → Type 0) (same : (i : ℕ) → A i ↔ B i) where
  guarded_over : IsGuarded net d A → IsGuarded net d B
  guarded_over (n, may, is) = (n, may, λ i. ((λ b. (is i).0 ((same i).1 b)), (λ a. (same i).0 ((is i).1 a))))

  guarded_back : IsGuarded net d B → IsGuarded net d A
  guarded_back (n, may, is) = (n, may, λ i. ((λ a. (is i).0 ((same i).0 a)), (λ b. (same i).1 ((is i).1 b))))

  pub choice_over : (z : Stack) (w : List ℕ) (c : Choice) → Chooses net d A z w c → Chooses net d B z w c
  choice_over z w _ (by_answer i path g s) = by_answer i path (guarded_over g)
      (sll_over net d A B (λ j t first. (same j).0) (λ j t first. (same j).1) w (answer i) path s)
  choice_over z w _ (by_error k path g s) = by_error k path (guarded_over g)
      (sll_over net d A B (λ j t first. (same j).0) (λ j t first. (same j).1) w (error_at k) path s)
  choice_over z w _ (by_full k path c g s full) = by_full k path c (guarded_over g)
      (sll_over net d A B (λ j t first. (same j).0) (λ j t first. (same j).1) w (sensitive k) path s)
      (full_over net d A B (λ j t first. (same j).0) (λ j t first. (same j).1) z w c full)
  choice_over z w _ (unguarded c none full) = unguarded c (λ g. none (guarded_back g))
      (full_over net d A B (λ j t first. (same j).0) (λ j t first. (same j).1) z w c full)
