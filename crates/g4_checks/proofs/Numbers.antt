-- The numbers of channels, a digit at a time.
use Rattle.std.proofs.Common.{◌≡◌, ℕ, ◌+◌, ◌*◌, ◌-◌, ◌<◌, ◌≤◌, List, [], ◌∷◌, length, drop, get_or, Bool, true, false, ◌&&◌, sym, ap, ◌∙◌, arith}
use Rattle.std.specs.Prelude.{nat_le}
use Rattle.std.specs.Char.{is_ascii_digit}
use Rattle.std.specs.Str.{all_ascii_digits}
use Rattle.std.proofs.lemmas.Bool.{lt-leb, and_right}
use Rattle.std.proofs.lemmas.List.{drop_more}
use Rattle.g4_checks.specs.Commands.{decimal_after}
use Rattle.g4_checks.specs.declared.channels.TheConstants.{MOST_CHANNEL}

-- the text is decimal digits, and with the digits of n before it the number of a channel
abbrev pub goes_on : ℕ → List ℕ → Bool
goes_on n text = all_ascii_digits text && nat_le (decimal_after n text) MOST_CHANNEL

-- more digits do not make a number less
grows : (n : ℕ) (text : List ℕ) → n ≤ decimal_after n text
grows n [] = omega arith
grows n (digit ∷ digits) = omega (arith, grows (10 * n + (digit - 48)) digits)

-- a number that is too great
pub too_great : (n : ℕ) (text : List ℕ) → MOST_CHANNEL < n → goes_on n text ≡ false
too_great n text above = and_right (all_ascii_digits text) (nat_le (decimal_after n text) MOST_CHANNEL)
    (lt-leb (decimal_after n text) MOST_CHANNEL (omega (arith, grows n text)))

module _ (n : ℕ) (text : List ℕ) (i : ℕ) (byte : ℕ) (within : i < length text) (item : byte ≡ get_or text i byte) where
  split : drop i text ≡ byte ∷ drop (i + 1) text
  split = drop_more text i byte within ∙ ap (λ (b : ℕ). b ∷ drop (i + 1) text) (sym item)

  -- one digit more
  pub digit_more : is_ascii_digit byte ≡ true → goes_on n (drop i text) ≡ goes_on (10 * n + (byte - 48)) (drop (i + 1) text)
  digit_more digit =
      ap (goes_on n) split ∙ ap (λ (b : Bool). (b && all_ascii_digits (drop (i + 1) text))
      && nat_le (decimal_after (10 * n + (byte - 48)) (drop (i + 1) text)) MOST_CHANNEL) digit

  -- a character that is no digit
  pub no_digit : is_ascii_digit byte ≡ false → goes_on n (drop i text) ≡ false
  no_digit other =
      ap (goes_on n) split ∙ ap (λ (b : Bool). (b && all_ascii_digits (drop (i + 1) text))
      && nat_le (decimal_after (10 * n + (byte - 48)) (drop (i + 1) text)) MOST_CHANNEL) other
