use Rattle.std.proofs.Common.{ℕ, ◌+◌, ◌*◌, ◌-◌, ◌<◌, List, drop, get_or, sym, ap, subst, ◌∙◌}
use Rattle.std.proofs.lemmas.List.{get_or_default}
use Rattle.g4_checks.proofs.Numbers.{digit_more, goes_on, too_great}
use Rattle.g4_checks.proofs.channels.is_channel_number.Goals as goal

pub returns-then-number-gt-MOST_CHANNEL : goal.returns-then-number-gt-MOST_CHANNEL
returns-then-number-gt-MOST_CHANNEL c =
    let text = c.as_bytes-byte-items.result.now in
    let byte = get_or text c.loop-byte.byte-index 0 in
    let item = get_or_default text c.loop-byte.byte-index 0 byte c.loop-byte-test.true in
    let digit = sym c.is_ascii_digit.ensures.value ∙ c.if-not-is_ascii_digit.false in
    let above = subst (λ (k : ℕ). 4294967295 < 10 * c.loop-byte.number + k) c.from.ensures c.if-number-gt-MOST_CHANNEL.true in
    sym (c.loop-byte.invariant.1 ∙ (ap (λ (t : List ℕ). goes_on c.loop-byte.number (drop c.loop-byte.byte-index t))
    (sym c.as_bytes-byte-items.ensures.value)
    ∙ (digit_more c.loop-byte.number text c.loop-byte.byte-index byte c.loop-byte-test.true item digit
    ∙ too_great (10 * c.loop-byte.number + (byte - 48)) (drop (c.loop-byte.byte-index + 1) text) above)))
