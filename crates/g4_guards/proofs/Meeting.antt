-- Which of the first states may be passed, one more at a time.
use Rattle.std.proofs.Common.{◌≡◌, ◌↔◌, ◌<◌, ◌⊎◌, inl, inr, ℕ, zero, suc, ◌+◌, List, [], ◌∷◌, ◌++◌, All, Some, Contains, length, take, get_or, slice_get, refl, sym, ◌∙◌, ap, subst, arith}
use Rattle.std.proofs.lemmas.Option.{get_or_from_slice_get, slice_get_within}
use Rattle.std.proofs.lemmas.List.Elements.{Contains-append_left, Contains-push, Contains-push_cases}
use Rattle.std.proofs.lemmas.List.{length-take-le, take_more}
use Rattle.g4_lookahead.proofs.OneChoice.{one_first}
use Rattle.g4_net.specs.declared.network.State.TheVariants.{Decision}
use Rattle.g4_net.specs.Network.{ParserNetwork, state_at}
use Rattle.g4_guards.specs.Levels.{AllowedAt, AreAllowedAt, HasDigit, LetsBy, MeetsBy, after_digit, at_level}
use Rattle.g4_guards.specs.Meeting.{MeetsAmong, after_digits, firsts_by}
use Rattle.g4_guards.specs.Tests.{HasNoPredicate}
use Rattle.g4_guards.proofs.Digits.{allowed_has, allowed_meets, has_allowed}
use Rattle.g4_guards.proofs.Testing.{first_in}

-- these are the alternatives among the first n
abbrev pub AreMeeting : ParserNetwork → ℕ → List ℕ → ℕ → List ℕ → Type 0
AreMeeting net level ts n found = (i : ℕ) → Contains found i ↔ MeetsAmong net level ts n i

split : (k n : ℕ) → k < n + 1 → (k < n) ⊎ (k ≡ n)
split k n less = grind arith

module _ (net : ParserNetwork) (level : ℕ) (ts : List ℕ) (n t : ℕ) (found : List ℕ) (at_n : slice_get ts n ≡ Some t) where
  further : (i : ℕ) → MeetsAmong net level ts n i → MeetsAmong net level ts (n + 1) i
  further i (k, u, less, at_k, number, meets) = (k, u, omega (arith, less), at_k, number, meets)

  nearer : (i : ℕ) → MeetsAmong net level ts (n + 1) i → MeetsAmong net level ts n i ⊎ ((i ≡ n + 1) × MeetsBy level (state_at net t))
  nearer i (k, u, less, at_k, number, meets) = elim (split k n less) [
    | inl before ↦ inl (k, u, before, at_k, number, meets)
    | inr is ↦ inr (
      number ∙ ap (λ (m : ℕ). m + 1) is,
      let same : u ≡ t = same_state is at_k in subst (λ (q : ℕ). MeetsBy level (state_at net q)) same meets,
    )
  ]
    where
      same_state : k ≡ n → slice_get ts k ≡ Some u → u ≡ t
      same_state is at = cc

  pub meeting_push : MeetsBy level (state_at net t) → AreMeeting net level ts n found → AreMeeting net level ts (n + 1) (found ++
      (n + 1) ∷ [])
  meeting_push meets are i = (to, from)
    where
      to : Contains (found ++ (n + 1) ∷ []) i → MeetsAmong net level ts (n + 1) i
      to has = elim (Contains-push_cases found (n + 1) i has) [
        | inl j ↦ further i ((are i).0 j)
        | inr is ↦ (n, t, omega arith, at_n, sym is, meets)
      ]

      from : MeetsAmong net level ts (n + 1) i → Contains (found ++ (n + 1) ∷ []) i
      from h = elim (nearer i h) [
        | inl j ↦ Contains-append_left found ((n + 1) ∷ []) i ((are i).1 j)
        | inr x ↦ subst (Contains (found ++ (n + 1) ∷ [])) (sym x.0) (Contains-push found (n + 1))
      ]

  pub meeting_skip : (MeetsBy level (state_at net t) → ⊥) → AreMeeting net level ts n found → AreMeeting net level ts (n + 1) found
  meeting_skip fails are i = (
    (λ has. further i ((are i).0 has)),
    λ h. elim (nearer i h) [ inl j ↦ (are i).1 j | inr x ↦ absurd (fails x.1) ],
  )

-- the digits of some first states and of one more
pub after_push : (net : ParserNetwork) (ts : List ℕ) (t n : ℕ)
    → after_digits net (ts ++ t ∷ []) n ≡ after_digit (state_at net t) (after_digits net ts n)
after_push net [] t n = refl
after_push net (s ∷ ts) t n = after_push net ts t (after_digit (state_at net s) n)

push_to : (net : ParserNetwork) (ts : List ℕ) (t n i : ℕ) → HasDigit net (ts ++ t ∷ []) n i
    → HasDigit net ts n i ⊎ ((i ≡ length ts + 1) × LetsBy (after_digits net ts n) (state_at net t))
push_to net [] t n zero x = absurd x
push_to net [] t n (suc zero) x = inr (refl, x)
push_to net [] t n (suc (suc i)) x = absurd x
push_to net (s ∷ ts) t n zero x = absurd x
push_to net (s ∷ ts) t n (suc zero) x = inl x
push_to net (s ∷ ts) t n (suc (suc i)) x = elim (push_to net ts t (after_digit (state_at net s) n) (suc i) x) [
  | inl before ↦ inl before
  | inr last ↦ (let is = last.0 in inr (omega (arith, is), last.1))
]

push_before : (net : ParserNetwork) (ts : List ℕ) (t n i : ℕ) → HasDigit net ts n i → HasDigit net (ts ++ t ∷ []) n i
push_before net [] t n i x = absurd x
push_before net (s ∷ ts) t n zero x = absurd x
push_before net (s ∷ ts) t n (suc zero) x = x
push_before net (s ∷ ts) t n (suc (suc i)) x = push_before net ts t (after_digit (state_at net s) n) (suc i) x

push_last : (net : ParserNetwork) (ts : List ℕ) (t n i : ℕ) → i ≡ length ts + 1 → LetsBy (after_digits net ts n) (state_at net t)
    → HasDigit net (ts ++ t ∷ []) n i
push_last net [] t n zero is x = absurd (omega (arith, is))
push_last net [] t n (suc zero) is x = x
push_last net [] t n (suc (suc i)) is x = absurd (omega (arith, is))
push_last net (s ∷ ts) t n zero is x = absurd (omega (arith, is))
push_last net (s ∷ ts) t n (suc zero) is x = absurd (omega (arith, is))
push_last net (s ∷ ts) t n (suc (suc i)) is x = push_last net ts t (after_digit (state_at net s) n) (suc i) (omega (arith, is)) x

-- these are the alternatives with these first states that the digits allow
abbrev pub AreDigits : ParserNetwork → List ℕ → ℕ → List ℕ → Type 0
AreDigits net ts n found = (i : ℕ) → Contains found i ↔ HasDigit net ts n i

-- as far as they were looked at
pub record IsDigitsTo (net : ParserNetwork) (ts : List ℕ) (n digits : ℕ) (found : List ℕ) : Type 0 where
  pub are : AreDigits net ts n found
  pub left : digits ≡ after_digits net ts n

module _ (net : ParserNetwork) (ts : List ℕ) (k t n digits rest : ℕ) (found : List ℕ) (less : k < length ts) (at : get_or ts k 0 ≡ t)
    (h : IsDigitsTo net (take k ts) n digits found) (is : rest ≡ after_digit (state_at net t) digits) where
  one_more : take (k + 1) ts ≡ take k ts ++ t ∷ []
  one_more = take_more ts k 0 less ∙ ap (λ (x : ℕ). take k ts ++ x ∷ []) at

  count : length (take k ts) ≡ k
  count = length-take-le k ts (omega (arith, less))

  left : rest ≡ after_digits net (take k ts ++ t ∷ []) n
  left = is ∙ ap (after_digit (state_at net t)) h.left ∙ sym (after_push net (take k ts) t n)

  pub digits_push : LetsBy digits (state_at net t) → IsDigitsTo net (take (k + 1) ts) n rest (found ++ (k + 1) ∷ [])
  digits_push lets = subst (λ (xs : List ℕ). IsDigitsTo net xs n rest (found ++ (k + 1) ∷ [])) (sym one_more)
      record { are = λ i. (to i, from i); left = left }
    where
      lets' : LetsBy (after_digits net (take k ts) n) (state_at net t)
      lets' = subst (λ (m : ℕ). LetsBy m (state_at net t)) h.left lets

      to : (i : ℕ) → Contains (found ++ (k + 1) ∷ []) i → HasDigit net (take k ts ++ t ∷ []) n i
      to i has = elim (Contains-push_cases found (k + 1) i has) [
        | inl j ↦ push_before net (take k ts) t n i ((h.are i).0 j)
        | inr e ↦ push_last net (take k ts) t n i (let c = count in omega (arith, e, c)) lets'
      ]

      from : (i : ℕ) → HasDigit net (take k ts ++ t ∷ []) n i → Contains (found ++ (k + 1) ∷ []) i
      from i x = elim (push_to net (take k ts) t n i x) [
        | inl before ↦ Contains-append_left found ((k + 1) ∷ []) i ((h.are i).1 before)
        | inr last ↦ (let e = last.0 in let c = count in
            subst (Contains (found ++ (k + 1) ∷ [])) (let same : k + 1 ≡ i = omega (arith, e, c) in same) (Contains-push found (k + 1)))
      ]

  pub digits_skip : (LetsBy digits (state_at net t) → ⊥) → IsDigitsTo net (take (k + 1) ts) n rest found
  digits_skip fails = subst (λ (xs : List ℕ). IsDigitsTo net xs n rest found) (sym one_more)
      record { are = λ i. (to i, from i); left = left }
    where
      to : (i : ℕ) → Contains found i → HasDigit net (take k ts ++ t ∷ []) n i
      to i has = push_before net (take k ts) t n i ((h.are i).0 has)

      from : (i : ℕ) → HasDigit net (take k ts ++ t ∷ []) n i → Contains found i
      from i x = elim (push_to net (take k ts) t n i x) [
        | inl before ↦ (h.are i).1 before
        | inr last ↦ absurd (fails (subst (λ (m : ℕ). LetsBy m (state_at net t)) (sym h.left) last.1))
      ]

-- where the alternatives begin with no tests but levels and each first state may be passed, all alternatives may be taken
pub every_allowed : (net : ParserNetwork) (d level : ℕ) (ts : List ℕ) → ts ≡ firsts_by (state_at net d) → HasNoPredicate net d
    → All (λ t. MeetsBy level (state_at net t)) ts → AreAllowedAt net d level (λ i. Unit {0})
every_allowed net d level ts is none all i t first =
    let read = first_in net d i t ts is first in
    let less = slice_get_within ts first.1 t read in (
      (λ _. (
        t,
        first,
        at_level none (subst (λ (q : ℕ). MeetsBy level (state_at net q)) (get_or_from_slice_get ts first.1 t t read)
            (all first.1 t less)),
      )),
      (λ _. tt),
    )

-- and else those that were found
pub listed_allowed : (net : ParserNetwork) (d level : ℕ) (ts found : List ℕ) → ts ≡ firsts_by (state_at net d) → HasNoPredicate net d
    → AreMeeting net level ts (length ts) found → AreAllowedAt net d level (Contains found)
listed_allowed net d level ts found is none are i t first = (to, from)
  where
    read : slice_get ts first.1 ≡ Some t
    read = first_in net d i t ts is first

    number : i ≡ first.1 + 1
    number = first.4

    same_state : (j u : ℕ) → j ≡ first.1 → slice_get ts j ≡ Some u → slice_get ts first.1 ≡ Some t → u ≡ t
    same_state j u e a b = cc

    to : Contains found i → AllowedAt net d level i
    to has =
        let (j, u, less, at_j, number', meets) = (are i).0 has in
        let here = read in
        let n = number in
        let same : j ≡ first.1 = omega (arith, n, number') in
        let one : u ≡ t = same_state j u same at_j here in
        (t, first, at_level none (subst (λ (q : ℕ). MeetsBy level (state_at net q)) one meets))

    from : AllowedAt net d level i → Contains found i
    from may =
        let (u, first', meets) = allowed_meets net d level i none may in
        let one : u ≡ t = one_first net d i u t first' first in
        (are i).1 (
          first.1,
          t,
          slice_get_within ts first.1 t read,
          read,
          number,
          subst (λ (q : ℕ). MeetsBy level (state_at net q)) one meets,
        )

-- where some alternative begins with a predicate, those that the digits allow may be taken
pub digits_allowed : (net : ParserNetwork) (d n : ℕ) (ts found : List ℕ) → state_at net d ≡ Some (Decision ts)
    → (HasNoPredicate net d → ⊥) → AreDigits net ts n found → AreAllowedAt net d n (Contains found)
digits_allowed net d n ts found at some are i t first =
    ((λ has. has_allowed net d n ts at some i ((are i).0 has)), λ may. (are i).1 (allowed_has net d n ts at some i may))
