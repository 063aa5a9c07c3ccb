-- The capped number of digits, one digit more at a time.
use Rattle.std.proofs.Common.{◌≡◌, ◌≢◌, ◌==◌, not, ℕ, zero, suc, ◌+◌, ◌-◌, ◌*◌, ◌<◌, ◌≤◌, Bool, true, false, List, [], ◌∷◌, ◌&&◌, length, take, get_or, ap, sym, ◌∙◌, arith}
use Rattle.std.specs.Char.{digit_value, is_ascii_digit}
use Rattle.std.specs.List.{list_all}
use Rattle.std.specs.Str.Parse.{digits_value}
use Rattle.std.proofs.lemmas.Int.Digits.{digits_value_more}
use Rattle.std.proofs.lemmas.Bool.Decides.{nat_tests}
use Rattle.g4_token_file.specs.Answers.{capped}
use Rattle.g4_token_file.specs.Lines.{is_number}
use Rattle.g4_token_file.proofs.Splits.{both_left, both_right}

-- a number is digits
pub all_digits : (ds : List ℕ) → is_number ds ≡ true → list_all is_ascii_digit ds ≡ true
all_digits [] is = absurd cc
all_digits (d ∷ ds) is = both_right _ (list_all is_ascii_digit (d ∷ ds)) is

-- each of the digits is one
pub digit_at : (ds : List ℕ) (i : ℕ) → list_all is_ascii_digit ds ≡ true → i < length ds → is_ascii_digit (get_or ds i 0) ≡ true
digit_at [] i all within = absurd (omega arith)
digit_at (d ∷ ds) zero all within = both_left (is_ascii_digit d) (list_all is_ascii_digit ds) all
digit_at (d ∷ ds) (suc i) all within =
    digit_at ds i (both_right (is_ascii_digit d) (list_all is_ascii_digit ds) all) (omega arith)

-- a digit is at least `0`
pub at_least : (d : ℕ) → is_ascii_digit d ≡ true → 48 ≤ d
at_least d digit = grind (arith, nat_tests)

value_is : (d : ℕ) → is_ascii_digit d ≡ true → digit_value d ≡ d - 48
value_is d digit = grind (arith, nat_tests)

cap_more : (value digit : ℕ) → capped (capped value * 10 + digit) ≡ capped (value * 10 + digit)
cap_more value digit = omega arith

-- the capped number with one digit more
pub capped_more : (ds : List ℕ) (i value d : ℕ) → list_all is_ascii_digit ds ≡ true → i < length ds → d ≡ get_or ds i 0
    → value ≡ capped (digits_value 10 (take i ds)) → capped (value * 10 + (d - 48)) ≡ capped (digits_value 10 (take (i + 1) ds))
capped_more ds i value d all within item before =
    let digit : d - 48 ≡ digit_value (get_or ds i 0) =
    ap (λ (e : ℕ). e - 48) item ∙ sym (value_is (get_or ds i 0) (digit_at ds i all within)) in
    ap (λ (v : ℕ). capped (v * 10 + (d - 48))) before
    ∙ (cap_more (digits_value 10 (take i ds)) (d - 48)
    ∙ (ap (λ (e : ℕ). capped (digits_value 10 (take i ds) * 10 + e)) digit ∙ ap capped (sym (digits_value_more 10 ds i within))))

first_counts : (d : ℕ) (b : Bool) → d ≢ 48 → (not (d == 48) && b) ≡ b
first_counts d b other =
    let no_zero : (d == 48) ≡ false = grind (arith, nat_tests, other) in ap (λ (z : Bool). not z && b) no_zero

-- digits that do not begin with 0 are a number
pub number_by : (ds : List ℕ) (answer : Bool) → 1 ≤ length ds → get_or ds 0 0 ≢ 48 → answer ≡ list_all is_ascii_digit ds
    → answer ≡ is_number ds
number_by [] answer within other is = absurd (omega arith)
number_by (d ∷ ds) answer within other is = is ∙ sym (first_counts d (list_all is_ascii_digit (d ∷ ds)) other)
