-- The digits of conditions: a number with no more digits than there are tests is determined by what it allows.
use Rattle.std.proofs.Common.{◌≡◌, ◌≤◌, ◌<◌, ◌↔◌, ◌⊎◌, inl, inr, ℕ, zero, suc, ◌+◌, ◌*◌, ◌/◌, ◌%◌, ◌^◌, List, [], ◌∷◌, Bool, true, false, Some, slice_get, if◌then◌else◌, refl, sym, ◌∙◌, ap, subst, arith}
use Rattle.std.proofs.Math.Nat.{div-add-mod, pow-suc}
use Rattle.std.proofs.lemmas.Bool.{cases_Bool}
use Rattle.g4_net.specs.declared.network.State.TheVariants.{Decision}
use Rattle.g4_net.specs.Network.{ParserNetwork, state_at, IsFirst}
use Rattle.g4_guards.specs.Levels.{AllowSame, AllowedAt, HasDigit, IsGuard, MayBegin, MeetsBy, after_digit, at_level, by_digit}
use Rattle.g4_guards.specs.Tests.{HasNoPredicate, is_test, tests_among}

-- the digit of a first state that is a test, and those after it
module _ (net : ParserNetwork) (t : ℕ) (ts : List ℕ) (n m b : ℕ) where
  halved : n ≡ 2 * m + b → b < 2 → (n % 2 ≡ b) × (n / 2 ≡ m)
  halved is small = let e = div-add-mod n 2 in (omega (arith, is, small), omega (arith, is, small))

  pub test_first : is_test (state_at net t) ≡ true → n ≡ 2 * m + b → b < 2 → HasDigit net (t ∷ ts) n 1 ↔ (b ≡ 1)
  test_first test is small = let h = halved is small in ((λ lets. sym h.0 ∙ lets test), λ one test'. h.0 ∙ one)

  pub test_later : (i : ℕ) → is_test (state_at net t) ≡ true → n ≡ 2 * m + b → b < 2
      → HasDigit net (t ∷ ts) n (suc (suc i)) ↔ HasDigit net ts m (suc i)
  test_later i test is small =
      let h = halved is small in
      let same : after_digit (state_at net t) n ≡ m = ap (λ (x : Bool). if x then n / 2 else n) test ∙ h.1 in
      ((λ x. subst (λ (k : ℕ). HasDigit net ts k (suc i)) same x), λ x. subst (λ (k : ℕ). HasDigit net ts k (suc i)) (sym same) x)

  -- and one digit more
  pub test_more : (k : ℕ) → m < 2 ^ k → b < 2 → 2 * m + b < 2 ^ suc k
  test_more k less small = let e : 2 ^ suc k ≡ 2 ^ k * 2 = pow-suc 2 k in omega (arith, less, small, e)

-- a first state that is no test
module _ (net : ParserNetwork) (t : ℕ) (ts : List ℕ) (n : ℕ) where
  pub free_first : is_test (state_at net t) ≡ false → HasDigit net (t ∷ ts) n 1
  free_first free test = absurd (cc)

  pub free_later : (i : ℕ) → is_test (state_at net t) ≡ false → HasDigit net (t ∷ ts) n (suc (suc i)) ↔ HasDigit net ts n (suc i)
  free_later i free =
      let same : after_digit (state_at net t) n ≡ n = ap (λ (x : Bool). if x then n / 2 else n) free in
      ((λ x. subst (λ (k : ℕ). HasDigit net ts k (suc i)) same x), λ x. subst (λ (k : ℕ). HasDigit net ts k (suc i)) (sym same) x)

-- the tests among first states and one before them
pub tests_test : (net : ParserNetwork) (t : ℕ) (ts : List ℕ) → is_test (state_at net t) ≡ true
    → tests_among net (t ∷ ts) ≡ suc (tests_among net ts)
tests_test net t ts test = ap (λ (x : Bool). if x then suc (tests_among net ts) else tests_among net ts) test

pub tests_free : (net : ParserNetwork) (t : ℕ) (ts : List ℕ) → is_test (state_at net t) ≡ false
    → tests_among net (t ∷ ts) ≡ tests_among net ts
tests_free net t ts free = ap (λ (x : Bool). if x then suc (tests_among net ts) else tests_among net ts) free

-- alternative 0 has no digit
no_zero : (net : ParserNetwork) (ts : List ℕ) (n : ℕ) → HasDigit net ts n 0 → ⊥
no_zero net [] n x = x
no_zero net (t ∷ ts) n x = x

odd_or_even : (n : ℕ) → (n % 2 ≡ 1) ⊎ (n % 2 ≡ 0)
odd_or_even n = grind arith

-- what the one number allows, the other does
LetsAll : ParserNetwork → List ℕ → ℕ → ℕ → Type 0
LetsAll net ts m n = (i : ℕ) → HasDigit net ts m i → HasDigit net ts n i

-- the same of the digits after the first
lets_later : (net : ParserNetwork) (t : ℕ) (ts : List ℕ) (m n k l : ℕ) → after_digit (state_at net t) m ≡ k
    → after_digit (state_at net t) n ≡ l → LetsAll net (t ∷ ts) m n → LetsAll net ts k l
unfolding LetsAll
lets_later net t ts m n k l m_is n_is h zero x = absurd (no_zero net ts k x)
lets_later net t ts m n k l m_is n_is h (suc i) x =
    subst (λ (j : ℕ). HasDigit net ts j (suc i)) n_is (h (suc (suc i)) (subst (λ (j : ℕ). HasDigit net ts j (suc i)) (sym m_is) x))

halves : (m n : ℕ) → n / 2 ≤ m / 2 → (n % 2 ≡ 1 → m % 2 ≡ 1) → n ≤ m
halves m n high low = elim (odd_or_even n) [
  | inl one ↦ (let o = low one in omega (arith, high, one, o))
  | inr even ↦ omega (arith, high, even)
]

-- no number that allows the same is below one with no more digits than there are tests
least_digits : (net : ParserNetwork) (ts : List ℕ) (m n : ℕ) → n < 2 ^ tests_among net ts → LetsAll net ts m n → LetsAll net ts n m → n ≤ m
unfolding LetsAll
least_digits net [] m n less to from = omega (arith, less)
least_digits net (t ∷ ts) m n less to from = by (least_digits net ts) (cases_Bool (is_test (state_at net t)))
  where
    by : ((k l : ℕ) → l < 2 ^ tests_among net ts → LetsAll net ts k l → LetsAll net ts l k → l ≤ k)
        → (is_test (state_at net t) ≡ true) ⊎ (is_test (state_at net t) ≡ false) → n ≤ m
    by later (inl test) =
        let power : 2 ^ tests_among net (t ∷ ts) ≡ 2 ^ tests_among net ts * 2 =
        ap (λ (k : ℕ). 2 ^ k) (tests_test net t ts test) ∙ pow-suc 2 (tests_among net ts) in
        let m_is : after_digit (state_at net t) m ≡ m / 2 = ap (λ (x : Bool). if x then m / 2 else m) test in
        let n_is : after_digit (state_at net t) n ≡ n / 2 = ap (λ (x : Bool). if x then n / 2 else n) test in
        let high = later (m / 2) (n / 2) (omega (arith, less, power)) (lets_later net t ts m n (m / 2) (n / 2) m_is n_is to)
        (lets_later net t ts n m (n / 2) (m / 2) n_is m_is from) in
        halves m n high (λ one. from 1 (λ _. one) test)
    by later (inr free) =
        let m_is : after_digit (state_at net t) m ≡ m = ap (λ (x : Bool). if x then m / 2 else m) free in
        let n_is : after_digit (state_at net t) n ≡ n = ap (λ (x : Bool). if x then n / 2 else n) free in
        later m n (subst (λ (k : ℕ). n < 2 ^ k) (tests_free net t ts free) less) (lets_later net t ts m n m n m_is n_is to)
        (lets_later net t ts n m n m n_is m_is from)

-- an alternative with a digit begins somewhere
digit_first : (net : ParserNetwork) (ts : List ℕ) (n i : ℕ) → HasDigit net ts n i
    → (k t : ℕ) × (slice_get ts k ≡ Some t) × (i ≡ k + 1)
digit_first net [] n i x = absurd x
digit_first net (t ∷ ts) n zero x = absurd x
digit_first net (t ∷ ts) n (suc zero) x = (0, t, refl, refl)
digit_first net (t ∷ ts) n (suc (suc i)) x =
    let (k, u, at, is) = digit_first net ts (after_digit (state_at net t) n) (suc i) x in (suc k, u, at, omega (arith, is))

-- what a condition allows goes by its digits, where some alternative begins with a predicate
module _ (net : ParserNetwork) (d n : ℕ) (targets : List ℕ) (at : state_at net d ≡ Some (Decision targets))
    (some : HasNoPredicate net d → ⊥) where
  pub allowed_has : (i : ℕ) → AllowedAt net d n i → HasDigit net targets n i
  allowed_has i (t, first, may) = by may
    where
      by : MayBegin net d n i t → HasDigit net targets n i
      by (at_level none meets) = absurd (some none)
      by (by_digit us more at' has) = let same : us ≡ targets = cc in subst (λ (ts : List ℕ). HasDigit net ts n i) same has

  pub has_allowed : (i : ℕ) → HasDigit net targets n i → AllowedAt net d n i
  has_allowed i has = let (k, t, here, is) = digit_first net targets n i has in
      (t, (targets, k, at, here, is), by_digit targets some at has)

-- and else by the level
pub allowed_meets : (net : ParserNetwork) (d n i : ℕ) → HasNoPredicate net d → AllowedAt net d n i
    → (t : ℕ) × IsFirst net d i t × MeetsBy n (state_at net t)
allowed_meets net d n i none (t, first, may) = (t, first, by may)
  where
    by : MayBegin net d n i t → MeetsBy n (state_at net t)
    by (at_level _ meets) = meets
    by (by_digit us some at' has) = absurd (some none)

module _ (net : ParserNetwork) (d : ℕ) (targets : List ℕ) (at : state_at net d ≡ Some (Decision targets))
    (some : HasNoPredicate net d → ⊥) where
  -- no condition with the same allowed alternatives is below one with no more digits than there are tests
  pub least_condition : (m n : ℕ) → n < 2 ^ tests_among net targets → AllowSame net d m n → n ≤ m
  unfolding LetsAll
  least_condition m n less same = least_digits net targets m n less
      (λ i x. allowed_has net d n targets at some i ((same i).0 (has_allowed net d m targets at some i x)))
      (λ i x. allowed_has net d m targets at some i ((same i).1 (has_allowed net d n targets at some i x)))

  -- so it is its own guard
  pub guard_digits : (n : ℕ) → n < 2 ^ tests_among net targets → IsGuard net d n n
  guard_digits n less = record { same = λ i. ((λ x. x), (λ x. x)); least = λ m same. least_condition m n less same }

  -- and two of them that allow the same are one
  pub one_condition : (m n : ℕ) → m < 2 ^ tests_among net targets → n < 2 ^ tests_among net targets → AllowSame net d m n → m ≡ n
  one_condition m n m_less n_less same =
      let up = least_condition m n n_less same in
      let down = least_condition n m m_less (λ i. ((same i).1, (same i).0)) in
      omega (arith, up, down)
