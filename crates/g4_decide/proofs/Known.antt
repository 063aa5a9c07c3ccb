-- Full stacks have a choice over the alternatives that a condition allows, and where one of these fits it is the least that does.
use Rattle.std.proofs.Common.{◌≡◌, ◌≤◌, ◌<◌, ◌⊎◌, inl, inr, ℕ, zero, suc, ◌%◌, List, [], ◌∷◌, Bool, true, false, Option, Some, None, Contains, drop, length, map, slice_get, refl, sym, ◌∙◌, ap, subst, arith}
use Rattle.std.proofs.Math.Decide.{ℕ_discrete}
use Rattle.g4_fits.specs.Fitting.{IsLeastThatFits}
use Rattle.g4_fits.proofs.Arriving.{last_is_own}
use Rattle.g4_fits.proofs.Choosing.{full_chooses}
use Rattle.g4_guards.specs.Levels.{AllowedAt, HasDigit, IsCondition, LetsBy, MayBegin, MeetsBy, after_digit, any_level, at_level, by_digit, few_digits}
use Rattle.g4_guards.specs.Tests.{HasNoPredicate, is_test}
use Rattle.g4_lookahead.proofs.Choices.{choice_of}
use Rattle.g4_lookahead.proofs.Looking.{looking_start}
use Rattle.g4_lookahead.proofs.Nexts.{start_finite, start_plain}
use Rattle.g4_lookahead.proofs.OneChoice.{one_first}
use Rattle.g4_lookahead.proofs.Proper.{proper_within, stands_apart}
use Rattle.g4_net.specs.AddedRule.{IsReady}
use Rattle.g4_net.specs.Configurations.{Config, IsWithin, above_bottom}
use Rattle.g4_net.specs.Lookahead.{Start}
use Rattle.g4_net.specs.Network.{ParserNetwork, state_at, IsFirst}
use Rattle.g4_net.specs.Prediction.{Choice, Full, FullFrom, chosen}
use Rattle.g4_net.specs.Proper.{IsProper}
use Rattle.g4_net.specs.declared.network.State.{State}
use Rattle.g4_net.specs.declared.network.State.TheVariants.{Decision, End, Edge, Call, Predicate, Level, Action, Empty}
use Rattle.g4_tokens.specs.Symbols.{end_of_list}
use Rattle.g4_tokens.specs.TokenList.{EndsInEnd, word_of}
use Rattle.g4_learned.proofs.Rests.{ends_ahead, word_from}
use Rattle.std.specs.Prelude.{IfSome}
use Rattle.g4_tokens.specs.declared.token.Token.{Token}
use Rattle.g4_decide.specs.Deciding.{ChoosesAt, IsSensitive}
use Rattle.g4_decide.proofs.Choosing.{settled}

-- a token of each symbol
abbrev tokens_of : List ℕ → List Token
tokens_of w = map (λ a. record { symbol = a; channel = 0; place = record { line = 0; column = 0 }; start = 0; end = 0 }) w

-- they are a token list of this word
word_of_tokens : (w : List ℕ) → word_of (tokens_of w) ≡ w
word_of_tokens [] = refl
word_of_tokens (a ∷ w) = ap (λ v. a ∷ v) (word_of_tokens w)

-- a state is a decision, or none
decision_or_not : (o : Option (State (List ℕ)))
    → ((targets : List ℕ) × (o ≡ Some (Decision targets))) ⊎ ((targets : List ℕ) → o ≡ Some (Decision targets) → ⊥)
decision_or_not (Some (Decision targets)) = inl (targets, refl)
decision_or_not None = inr (λ ts e. let clash : ⊥ = cc in clash)
decision_or_not (Some (End rule)) = inr (λ ts e. let clash : ⊥ = cc in clash)
decision_or_not (Some (Edge set t)) = inr (λ ts e. let clash : ⊥ = cc in clash)
decision_or_not (Some (Call rule level back)) = inr (λ ts e. let clash : ⊥ = cc in clash)
decision_or_not (Some (Predicate k t)) = inr (λ ts e. let clash : ⊥ = cc in clash)
decision_or_not (Some (Level q t)) = inr (λ ts e. let clash : ⊥ = cc in clash)
decision_or_not (Some (Action t)) = inr (λ ts e. let clash : ⊥ = cc in clash)
decision_or_not (Some (Empty t)) = inr (λ ts e. let clash : ⊥ = cc in clash)

-- whether a state may be passed at a level
meets_or_not : (n : ℕ) (o : Option (State (List ℕ))) → Dec (MeetsBy n o)
meets_or_not n (Some (Level q t)) = elim (let split : (n ≤ q) ⊎ (q < n) = grind arith in split) [
  | inl low ↦ yes low
  | inr high ↦ no (λ low. omega (arith, low, high))
]
meets_or_not n (Some (Decision targets)) = yes tt
meets_or_not n (Some (End rule)) = yes tt
meets_or_not n (Some (Edge set t)) = yes tt
meets_or_not n (Some (Call rule level back)) = yes tt
meets_or_not n (Some (Predicate k t)) = yes tt
meets_or_not n (Some (Action t)) = yes tt
meets_or_not n (Some (Empty t)) = yes tt
meets_or_not n None = yes tt

-- whether a digit forbids a state
lets_or_not : (n : ℕ) (o : Option (State (List ℕ))) → Dec (LetsBy n o)
lets_or_not n o = by (is_test o) refl (ℕ_discrete (n % 2) 1)
  where
    by : (b : Bool) → is_test o ≡ b → Dec (n % 2 ≡ 1) → Dec (LetsBy n o)
    by false is odd = yes (λ test. absurd (let no : ⊥ = cc in no))
    by true is (yes odd) = yes (λ test. odd)
    by true is (no even) = no (λ lets. even (lets is))

digit_or_not : (net : ParserNetwork) (ts : List ℕ) (n i : ℕ) → Dec (HasDigit net ts n i)
digit_or_not net [] n i = no (λ h. h)
digit_or_not net (t ∷ ts) n zero = no (λ h. h)
digit_or_not net (t ∷ ts) n (suc zero) = lets_or_not n (state_at net t)
digit_or_not net (t ∷ ts) n (suc (suc i)) = digit_or_not net ts (after_digit (state_at net t) n) (suc i)

module _ (net : ParserNetwork) (d n : ℕ) where
  -- what may begin at a level, and by its digit
  level_of_it : (i t : ℕ) → HasNoPredicate net d → MayBegin net d n i t → MeetsBy n (state_at net t)
  level_of_it i t none (at_level _ meets) = meets
  level_of_it i t none (by_digit targets some at has) = absurd (some none)

  digit_of_it : (i t : ℕ) (targets : List ℕ) → (HasNoPredicate net d → ⊥) → state_at net d ≡ Some (Decision targets)
      → MayBegin net d n i t → HasDigit net targets n i
  digit_of_it i t targets some at (at_level none meets) = absurd (some none)
  digit_of_it i t targets some at (by_digit us _ at' has) =
      let same : us ≡ targets = cc in subst (λ (xs : List ℕ). HasDigit net xs n i) same has

  -- whether an alternative may be taken
  may_or_not : IsCondition net d n → (i t : ℕ) → Dec (MayBegin net d n i t)
  may_or_not (any_level none) i t = by (meets_or_not n (state_at net t))
    where
      by : Dec (MeetsBy n (state_at net t)) → Dec (MayBegin net d n i t)
      by (yes meets) = yes (at_level none meets)
      by (no fails) = no (λ may. fails (level_of_it i t none may))
  may_or_not (few_digits targets some few less) i t = by (digit_or_not net targets n i)
    where
      by : Dec (HasDigit net targets n i) → Dec (MayBegin net d n i t)
      by (yes has) = yes (by_digit targets some few.0 has)
      by (no lacks) = no (λ may. lacks (digit_of_it i t targets some few.0 may))

  allowed_or_not : IsCondition net d n → (i : ℕ) → Dec (AllowedAt net d n i)
  allowed_or_not may i = elim (decision_or_not (state_at net d)) [
    | inl (targets, at) ↦ at_number targets at i
    | inr never ↦ no (λ (t, (us, k, at, has, number), m). never us at)
  ]
    where
      at_place : (targets : List ℕ) (k : ℕ) → state_at net d ≡ Some (Decision targets) → (o : Option ℕ) → slice_get targets k ≡ o
          → Dec (AllowedAt net d n (suc k))
      at_place targets k at None got =
          no (λ (t, (us, j, at', has, number), m).
          let same : us ≡ targets = cc in
          let place : j ≡ k = omega (arith, number) in
          let has' : slice_get targets k ≡ Some t = subst (λ (xs : List ℕ). slice_get xs k ≡ Some t) same
          (subst (λ (p : ℕ). slice_get us p ≡ Some t) place has) in
          let clash : ⊥ = cc in clash)
      at_place targets k at (Some t) got = by (may_or_not may (suc k) t)
        where
          first : IsFirst net d (suc k) t
          first = (targets, k, at, got, omega arith)

          by : Dec (MayBegin net d n (suc k) t) → Dec (AllowedAt net d n (suc k))
          by (yes m) = yes (t, first, m)
          by (no not) = no (λ (u, other, m). not (subst (λ (x : ℕ). MayBegin net d n (suc k) x) (one_first net d
              (suc k) u t other first) m))

      at_number : (targets : List ℕ) → state_at net d ≡ Some (Decision targets) → (j : ℕ) → Dec (AllowedAt net d n j)
      at_number targets at zero = no (λ (t, (us, k, at', has, number), m). omega (arith, number))
      at_number targets at (suc k) = at_place targets k at (slice_get targets k) refl

-- on a word with END full stacks have a choice, where it can be decided which alternatives are allowed
choice_over : (net : ParserNetwork) (d : ℕ) (A : ℕ → Type 0) → ((i : ℕ) → Dec (A i)) → (returns w : List ℕ) → IsReady net
    → IsProper net d returns → Contains w end_of_list → (c : Choice) × Full net d A (above_bottom returns) w c
choice_over net d A decided returns w (rule, loop, set, runnable) proper ends =
    let z = above_bottom returns in
    let C : Config → Type 0 = Start net d A z in
    let all = proper_within net d returns runnable.well_formed proper in
    let plain = start_plain net d A decided z runnable.well_formed all refl in
    let finite = start_finite net d A decided z runnable.well_formed all refl in
    let within : (c : Config) → C c → IsWithin net c = λ c i. (plain c i).0 in
    let apart = stands_apart net rule loop runnable.apart d returns proper in
    let has = subst (λ (v : List ℕ). Contains v end_of_list) (sym (word_of_tokens w)) ends in
    let looking = looking_start net d A z (tokens_of w) C (rule, loop, set, runnable, apart) (λ c. ((λ i. i), λ i. i)) within has in
    let r = choice_of net returns (tokens_of w) (length (tokens_of w)) 0 C (omega arith) looking finite in
    (r.0, subst (λ (v : List ℕ). FullFrom net C v 0 r.0) (word_of_tokens w) r.1)

-- where the least alternative that fits is known, full stacks choose it
full_is_least : (net : ParserNetwork) (d condition : ℕ) (returns w : List ℕ) (i : ℕ) → IsReady net → IsCondition net d condition
    → IsProper net d returns → Contains w end_of_list → IsLeastThatFits net d (AllowedAt net d condition) returns w i
    → Full net d (AllowedAt net d condition) (above_bottom returns) w (chosen i)
full_is_least net d condition returns w i ready may proper ends least =
    let A : ℕ → Type 0 = AllowedAt net d condition in
    let c = choice_over net d A (allowed_or_not net d condition may) returns w ready proper ends in
    let r = full_chooses net (last_is_own net ready) d A returns w proper c.0 (i, least.allowed, least.fits) c.1 in
    let low : i ≤ r.0 = least.least r.0 r.2.allowed r.2.fits in
    let high : r.0 ≤ i = r.2.least i least.allowed least.fits in
    let same : r.0 ≡ i = omega (arith, low, high) in
    subst (λ (x : Choice). Full net d A (above_bottom returns) w x) (r.1 ∙ ap chosen same) c.1

-- and so the decision does, where the stack matters
pub least_chosen : (net : ParserNetwork) (d condition : ℕ) (returns w : List ℕ) (i : ℕ) → IsReady net → IsCondition net d condition
    → IsProper net d returns → Contains w end_of_list → IsSensitive net d condition w
    → IsLeastThatFits net d (AllowedAt net d condition) returns w i
    → ChoosesAt net d condition returns w (chosen i) × ((t : ℕ) × IsFirst net d i t)
least_chosen net d condition returns w i ready may proper ends (k, path, sll) least =
    settled net d condition may w returns k path sll i (full_is_least net d condition returns w i ready may proper ends least)

-- what is known, where it is an alternative
some_known : (P : ℕ → Type 0) (x : Option ℕ) (i : ℕ) → x ≡ Some i → IfSome x P → P i
some_known P None i is h = absurd (let no : ⊥ = cc in no)
some_known P (Some j) i is h = let same : j ≡ i = cc in subst P same h

-- the same of tokens from a place on
pub known_chosen : (net : ParserNetwork) (d condition from : ℕ) (returns : List ℕ) (tokens : List Token) (known : Option ℕ) (i : ℕ)
    → known ≡ Some i → IsReady net → IsCondition net d condition → IsProper net d returns → EndsInEnd (word_of tokens)
    → from < length tokens → IsSensitive net d condition (drop from (word_of tokens))
    → IfSome known (IsLeastThatFits net d (AllowedAt net d condition) returns (drop from (word_of tokens)))
    → ChoosesAt net d condition returns (drop from (word_of tokens)) (chosen i) × ((t : ℕ) × IsFirst net d i t)
known_chosen net d condition from returns tokens known i is ready may proper ends more matters least =
    least_chosen net d condition returns (drop from (word_of tokens)) i ready may proper
    (subst (λ (w : List ℕ). Contains w end_of_list) (word_from from tokens) (ends_ahead from tokens ends more)) matters
    (some_known (IsLeastThatFits net d (AllowedAt net d condition) returns (drop from (word_of tokens))) known i is least)
