-- The guards of a decision rise from 0, and the last of them up to a condition is the guard of that condition.
use Rattle.std.proofs.Common.{◌≡◌, ◌≤◌, ◌<◌, inl, ℕ, zero, suc, ◌+◌, ◌^◌, List, [], ◌∷◌, ◌++◌, Some, Contains, length, refl, ◌∙◌, ap, subst, arith}
use Rattle.std.proofs.Math.Nat.{pow-le-pow_right}
use Rattle.std.proofs.lemmas.List.FromFn.{get_or-range_with_len, length-range_with_len}
use Rattle.std.specs.List.{range_with_len}
use Rattle.std.specs.List.Sorted.{IsStrictlyIncreasing}
use Rattle.g4_net.specs.declared.network.State.TheVariants.{Decision}
use Rattle.g4_net.specs.Network.{ParserNetwork, state_at}
use Rattle.g4_guards.specs.Levels.{IsCondition, IsGuard, any_level, few_digits}
use Rattle.g4_guards.specs.Tests.{HasNoPredicate, tests_among}
use Rattle.g4_guards.specs.declared.tests.TheConstants.{MOST_TESTED}
use Rattle.g4_guards.proofs.Digits.{guard_digits}
use Rattle.g4_learned.specs.Guards.{AreBelow, AreGuards, by_digits, by_levels, unguarded}
use Rattle.g4_learned.proofs.Guarding.{guard_at, level_fits}

-- a decision has few tests where it has conditions, but for levels
few_tests : (net : ParserNetwork) (d n : ℕ) (targets : List ℕ) → state_at net d ≡ Some (Decision targets) → (HasNoPredicate net d → ⊥)
    → IsCondition net d n → (tests_among net targets ≤ MOST_TESTED) × (n < 2 ^ tests_among net targets)
few_tests net d n targets at some (any_level none) = absurd (some none)
few_tests net d n targets at some (few_digits us more few less) =
    let at' = few.0 in
    let same : us ≡ targets = cc in (
      subst (λ (ts : List ℕ). tests_among net ts ≤ MOST_TESTED) same few.1,
      subst (λ (ts : List ℕ). n < 2 ^ tests_among net ts) same less,
    )

none_in : (guards : List ℕ) (l : ℕ) → guards ≡ [] → Contains guards l → ⊥
none_in guards l is (k, less, here) = let e = ap length is in omega (arith, less, e)

module _ (net : ParserNetwork) (d : ℕ) (targets guards : List ℕ) (at : state_at net d ≡ Some (Decision targets)) where
  pub guards_rise : AreGuards net d targets guards → IsStrictlyIncreasing guards
  guards_rise (by_levels none are) = are.rising
  guards_rise (by_digits some few are) = are.rising
  guards_rise (unguarded some many is) = λ k less. absurd (let e = ap length is in omega (arith, less, e))

  pub guards_fit : AreGuards net d targets guards → (g : ℕ) → Contains guards g → g < 2 ^ 32
  guards_fit (by_levels none are) g c = level_fits net d targets guards at are g c
  guards_fit (by_digits some few are) g c =
      let less = (are.are g).0 c in
      let six : 2 ^ tests_among net targets ≤ 2 ^ 6 = pow-le-pow_right (omega arith) few in
      omega (arith, less, six)
  guards_fit (unguarded some many is) g c = absurd (none_in guards g is c)

  -- each is a condition
  pub guards_may : AreGuards net d targets guards → (g : ℕ) → Contains guards g → IsCondition net d g
  guards_may (by_levels none are) g c = any_level none
  guards_may (by_digits some few are) g c = few_digits targets some (at, few) ((are.are g).0 c)
  guards_may (unguarded some many is) g c = absurd (none_in guards g is c)

  -- where there is a condition, 0 is the first
  pub guards_from_0 : AreGuards net d targets guards → (n : ℕ) → IsCondition net d n → Contains guards 0
  guards_from_0 (by_levels none are) n may = are.all 0 (inl refl)
  guards_from_0 (by_digits some few are) n may = let f = few_tests net d n targets at some may in let less = f.1 in
      (are.are 0).1 (omega (arith, less))
  guards_from_0 (unguarded some many is) n may = let f = few_tests net d n targets at some may in let few = f.0 in
      absurd (omega (arith, few, many))

  -- the last one up to a condition is its guard
  pub last_guard : AreGuards net d targets guards → (g n : ℕ) → IsCondition net d n → n < 2 ^ 32 → Contains guards g → g ≤ n
      → ((l : ℕ) → Contains guards l → l ≤ n → l ≤ g) → IsGuard net d n g
  last_guard (by_levels none are) g n may fits c le greatest = guard_at net d targets guards at are none g n fits c le greatest
  last_guard (by_digits some few are) g n may fits c le greatest =
      let f = few_tests net d n targets at some may in
      let up = greatest n ((are.are n).1 f.1) (omega arith) in
      let same : n ≡ g = omega (arith, up, le) in
      subst (λ (m : ℕ). IsGuard net d n m) same (guard_digits net d targets at some n f.1)
  last_guard (unguarded some many is) g n may fits c le greatest = absurd (none_in guards g is c)

-- the numbers from one on, and one more
pub range_more : (a n : ℕ) → range_with_len a (suc n) ≡ range_with_len a n ++ (a + n) ∷ []
range_more a zero = ap (λ (x : ℕ). x ∷ []) (let e : a ≡ a + 0 = omega arith in e)
range_more a (suc n) = ap (λ (xs : List ℕ). a ∷ xs) (range_more (a + 1) n
    ∙ ap (λ (x : ℕ). range_with_len (a + 1) n ++ x ∷ []) (let e : a + 1 + n ≡ a + suc n = omega arith in e))

-- those from 0 on
pub below_range : (n : ℕ) → AreBelow n (range_with_len 0 n)
below_range n = record { rising = rising; are = λ l. (to l, from l) }
  where
    count : length (range_with_len 0 n) ≡ n
    count = length-range_with_len 0 n

    rising : IsStrictlyIncreasing (range_with_len 0 n)
    rising k less =
        let c = count in
        let low = get_or-range_with_len 0 n k 0 (omega (arith, less, c)) in
        let high = get_or-range_with_len 0 n (k + 1) 0 (omega (arith, less, c)) in
        omega (arith, low, high)

    to : (l : ℕ) → Contains (range_with_len 0 n) l → l < n
    to l (k, less, is) =
        let c = count in let e = get_or-range_with_len 0 n k l (omega (arith, less, c)) in omega (arith, less, c, is, e)

    from : (l : ℕ) → l < n → Contains (range_with_len 0 n) l
    from l less =
        let c = count in let e = get_or-range_with_len 0 n l l less in (l, omega (arith, less, c), omega (arith, e))
