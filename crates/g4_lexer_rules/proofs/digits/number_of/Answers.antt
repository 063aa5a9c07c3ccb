use Rattle.std.proofs.Common.{◌≡◌, [], ℕ, ◌+◌, ◌*◌, ◌-◌, ◌<◌, List, drop, get_or, sym, ap, ◌∙◌, arith}
use Rattle.std.proofs.lemmas.List.{drop_all, get_or_default}
use Rattle.g4_checks.specs.declared.channels.TheConstants.{MOST_CHANNEL}
use Rattle.g4_lexer_rules.proofs.ByDigits.{no_more, number_after, too_great_with}
use Rattle.g4_lexer_rules.proofs.digits.number_of.Goals as goal

pub returns-in_err-checked_mul : goal.returns-in_err-checked_mul
returns-in_err-checked_mul c =
    let text = c.as_bytes-byte-items.result.now in
    let n = c.loop-byte.number in
    let i = c.loop-byte.byte-index in
    let byte = get_or text i 0 in
    let item = get_or_default text i 0 byte c.loop-byte-test.true in
    let digit = sym c.is_ascii_digit.ensures.value ∙ c.if-not-is_ascii_digit.false in
    let above : MOST_CHANNEL < 10 * n + (byte - 48) = let large : n * 10 < 4294967296 → ⊥ = c.in_err-checked_mul.ensures in
    omega (arith, large) in
    c.from_residual.ensures ∙ sym (c.loop-byte.invariant.1
    ∙ (ap (λ (t : List ℕ). number_after n (drop i t)) (sym c.as_bytes-byte-items.ensures.value)
    ∙ too_great_with n text i byte c.loop-byte-test.true item digit above))

pub returns-in_err-number : goal.returns-in_err-number
returns-in_err-number c =
    let text = c.as_bytes-byte-items.result.now in
    let n = c.loop-byte.number in
    let i = c.loop-byte.byte-index in
    let byte = get_or text i 0 in
    let item = get_or_default text i 0 byte c.loop-byte-test.true in
    let digit = sym c.is_ascii_digit.ensures.value ∙ c.if-not-is_ascii_digit.false in
    let large : c.in_ok-checked_mul.field-0 + c.from.result < 4294967296 → ⊥ = c.in_err-number.ensures in
    let above : MOST_CHANNEL < 10 * n + (byte - 48) = omega (arith, large, c.in_ok-checked_mul.ensures.1, c.from.ensures) in
    c.from_residual-in_err-number.ensures
    ∙ sym (c.loop-byte.invariant.1 ∙ (ap (λ (t : List ℕ). number_after n (drop i t)) (sym c.as_bytes-byte-items.ensures.value)
    ∙ too_great_with n text i byte c.loop-byte-test.true item digit above))

pub returns : goal.returns
returns c =
    let text = c.as_bytes-byte-items.result.now in
    let past : drop c.loop-byte.byte-index c.args.text.now ≡ [] =
    ap (drop c.loop-byte.byte-index) (sym c.as_bytes-byte-items.ensures.value)
    ∙ drop_all c.loop-byte.byte-index text c.loop-byte-test.false in
    sym (c.loop-byte.invariant.1 ∙ (ap (number_after c.loop-byte.number) past ∙ no_more c.loop-byte.number c.loop-byte.invariant.0))
