-- Hexadecimal digits, and the bounds of what they write.
use Rattle.std.proofs.Common.{◌≡◌, ℕ, zero, suc, ◌+◌, ◌*◌, ◌^◌, ◌<◌, ◌≤◌, List, [], ◌∷◌, length, get_or, take, Bool, true, false, cond, nat_lt, arith, refl, add-one, Option, Some, None, SomeIff, unwrap_or}
use Rattle.std.proofs.Math.Nat.{pow-suc, pow-le-pow_right}
use Rattle.std.proofs.lemmas.Bool.Decides.{nat_tests}
use Rattle.std.specs.Char.{digit_value}
use Rattle.std.specs.List.{prefix_len}
use Rattle.std.specs.Str.Parse.{AllDigits}
use Rattle.g4_chars.specs.Escapes.{is_hexadecimal}

-- one more digit
pub value_more : (v i d : ℕ) → v < 16 ^ i → d < 16 → v * 16 + d < 16 ^ (i + 1)
value_more v i d below digit = rw (add-one, pow-suc 16 i) (omega arith)

-- six digits fit
pub six_fit : (i : ℕ) → i < 6 → 16 ^ (i + 1) ≤ 16777216
six_fit i h = pow-le-pow_right {n = 16} (omega arith) {i = i + 1} {j = 6} (omega arith)

-- a digit of the digits
pub digit_at : (text : List ℕ) (i d : ℕ) → i < length text → AllDigits 16 text → digit_value (get_or text i d) < 16
digit_at [] i d h all = absurd (omega arith)
digit_at (c ∷ cs) zero d h all = all.0
digit_at (c ∷ cs) (suc i) d h all = digit_at cs i d (omega arith) all.1

digit_step : (n : ℕ) (c : ℕ) (cs : List ℕ) → ((n ≤ prefix_len is_hexadecimal cs) → AllDigits 16 (take n cs)) → (b : Bool)
    → b ≡ nat_lt (digit_value c) 16 → suc n ≤ cond b (1 + prefix_len is_hexadecimal cs) 0 → (digit_value c < 16) × AllDigits 16 (take n cs)
digit_step n c cs more true e h = (grind (arith, nat_tests), more (omega arith))
digit_step n c cs more false e h = absurd (omega arith)

-- the digits that a text begins with are digits
pub front_digits : (n : ℕ) (text : List ℕ) → n ≤ prefix_len is_hexadecimal text → AllDigits 16 (take n text)
front_digits zero text h = tt
front_digits (suc n) [] h = tt
front_digits (suc n) (c ∷ cs) h = digit_step n c cs (front_digits n cs) (nat_lt (digit_value c) 16) refl h

-- the value of a digit, which is read
pub digit_read : (r : Option ℕ) (d : ℕ) → SomeIff r (d < 16) d → d < 16 → unwrap_or r 0 ≡ d
digit_read None d h below = absurd (h below)
digit_read (Some x) d h below = h.1
