-- The number from 1 that a text is in decimal digits.
use Rattle.std.proofs.Common.{◌≡◌, ◌<◌, ◌≤◌, ◌^◌, ℕ, zero, suc, [], ◌∷◌, Option, Some, None, Ok, Err, Result, ap, arith, decimal, get_or, slice_get, subst, sym, ◌∙◌}
use Rattle.std.specs.Result.{result_ok}
use Rattle.std.specs.Str.Parse.{AllDigits, IsNumeral, ParsesUnsigned, digits_value}
use Rattle.std.proofs.lemmas.Fmt.{decimal-digits_value, decimal_digit, decimal_injective, first_decimal, parse-decimal}
use Rattle.std.proofs.lemmas.Str.Parse.{numerals_by_value, tells_digits, without_leading_plus_none}
use Rattle.clap.specs.Words.{Text}
use Rattle.g4_words.specs.Commands.{FindsNumber, IsGiven, IsNumber, IsWritten}

-- a text that begins with a digit from 1 or with another byte past `0`, and is parsed as a number, is that number in digits
read_number : (text : Text) (number : ℕ) → 48 < get_or text 0 0 → IsNumeral 10 text → digits_value 10 text < 2 ^ 32
    → number ≡ digits_value 10 text → IsWritten text number
read_number text number first numeral small is = (digits, by_number number is digits)
  where
    digits : text ≡ decimal number
    digits = sym (ap decimal is ∙ decimal-digits_value (numerals_by_value (AllDigits 10) tells_digits) text numeral.1 numeral.0
        (λ zero. absurd (omega (arith, zero))) (omega arith))

    by_number : (n : ℕ) → n ≡ digits_value 10 text → text ≡ decimal n → 1 ≤ n
    by_number zero same written = absurd (omega (arith, ap (λ (t : Text). get_or t 0 0) (written ∙ decimal_digit 0 (omega arith))))
    by_number (suc n) same written = omega arith

-- what is parsed of a text whose first byte is past `0`
pub parsed_number : {E : Type 0} (text : Text) (answer : Result ℕ E) → 48 < get_or text 0 0 → ParsesUnsigned 32 10 text answer
    → FindsNumber text (result_ok answer)
parsed_number text (Ok number) first parses =
    let plain = without_leading_plus_none text (λ plus. absurd (omega (arith, plus))) in
    read_number text number first (subst (IsNumeral 10) plain parses.0.0)
    (subst (λ (t : Text). digits_value 10 t < 2 ^ 32) plain parses.0.1) (parses.1 ∙ ap (digits_value 10) plain)
parsed_number text (Err fault) first parses = λ number small is.
    let read = parse-decimal 32 number text (Err fault) small (omega arith) is.0 parses in cc

-- a text without a first byte past `0` is no number
pub no_number : (text : Text) → (48 < get_or text 0 0 → ⊥) → FindsNumber text None
no_number text first = λ number small is.
    first (subst (λ (t : Text). 48 < get_or t 0 0) (sym is.0) (first_decimal number (omega (arith, is.1)) (omega arith)))

-- an option gives one number
pub one_number : (text : Option Text) (default most a b : ℕ) → most < 2 ^ 64 → IsNumber text default most a → IsNumber text default most b
    → a ≡ b
one_number text default most a b small p q = by_text text p.given q.given
  where
    by_text : (text : Option Text) → IsGiven text default a → IsGiven text default b → a ≡ b
    by_text None p_is q_is = p_is ∙ sym q_is
    by_text (Some digits) p_is q_is = decimal_injective a b (omega (arith, p.within)) (omega (arith, q.within)) (sym p_is ∙ q_is)

-- the first byte of a text, if it has one
pub first_byte : (text : Text) (first : ℕ) → Some first ≡ slice_get text 0 → get_or text 0 0 ≡ first
first_byte [] first is = cc
first_byte (byte ∷ bytes) first is = cc

pub no_first_byte : (text : Text) → None ≡ slice_get text 0 → 48 < get_or text 0 0 → ⊥
no_first_byte [] is = λ past. omega arith
no_first_byte (byte ∷ bytes) is = λ past. cc

-- a number that is past the most is no number of the option
pub past_most : (text : Text) (default most number other : ℕ) → number < 2 ^ 32 → most < 2 ^ 32 → most < number → IsWritten text number
    → IsNumber (Some text) default most other → ⊥
past_most text default most number other small within past is p =
    omega (arith, p.within, decimal_injective number other (omega arith) (omega (arith, p.within)) (sym is.0 ∙ p.given))
