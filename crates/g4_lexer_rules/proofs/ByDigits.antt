-- The numbers of channels, a digit at a time.
use Rattle.std.proofs.Common.{◌≡◌, ℕ, ◌+◌, ◌*◌, ◌-◌, ◌<◌, ◌≤◌, List, [], ◌∷◌, length, drop, get_or, Bool, true, cond, ◌&&◌, Option, Some, None, sym, ap, ◌∙◌}
use Rattle.std.specs.Prelude.{nat_le}
use Rattle.std.specs.Char.{is_ascii_digit}
use Rattle.std.specs.Str.{all_ascii_digits}
use Rattle.std.proofs.lemmas.Bool.{le-leb}
use Rattle.std.proofs.lemmas.List.{drop_more}
use Rattle.g4_checks.specs.Commands.{decimal_after}
use Rattle.g4_checks.specs.declared.channels.TheConstants.{MOST_CHANNEL}
use Rattle.g4_checks.proofs.Numbers.{goes_on, too_great}

-- the number that these digits are after the digits of n, if a channel can have it
abbrev pub number_after : ℕ → List ℕ → Option ℕ
number_after n text = cond (goes_on n text) (Some (decimal_after n text)) None

-- with no digit more it is n
pub no_more : (n : ℕ) → n ≤ MOST_CHANNEL → number_after n [] ≡ Some n
no_more n fits = ap (λ (b : Bool). cond b (Some n) None) (le-leb n MOST_CHANNEL fits)

-- there is none past the greatest
none_above : (n : ℕ) (text : List ℕ) → MOST_CHANNEL < n → number_after n text ≡ None
none_above n text above = ap (λ (b : Bool). cond b (Some (decimal_after n text)) None) (too_great n text above)

module _ (n : ℕ) (text : List ℕ) (i : ℕ) (byte : ℕ) (within : i < length text) (item : byte ≡ get_or text i byte) where
  -- the number with what is after this character, if that is a digit
  abbrev next : Bool → Option ℕ
  next b = cond ((b && all_ascii_digits (drop (i + 1) text))
      && nat_le (decimal_after (10 * n + (byte - 48)) (drop (i + 1) text)) MOST_CHANNEL)
      (Some (decimal_after (10 * n + (byte - 48)) (drop (i + 1) text))) None

  -- what is left begins with this character
  split : number_after n (drop i text) ≡ number_after n (byte ∷ drop (i + 1) text)
  split = ap (number_after n) (drop_more text i byte within ∙ ap (λ (b : ℕ). b ∷ drop (i + 1) text) (sym item))

  -- one digit more
  digit_more : is_ascii_digit byte ≡ true → number_after n (drop i text) ≡ number_after (10 * n + (byte - 48)) (drop (i + 1) text)
  digit_more digit = split ∙ ap next digit

  -- a digit that makes the number too great
  pub too_great_with : is_ascii_digit byte ≡ true → MOST_CHANNEL < 10 * n + (byte - 48) → number_after n (drop i text) ≡ None
  too_great_with digit above = digit_more digit ∙ none_above (10 * n + (byte - 48)) (drop (i + 1) text) above
