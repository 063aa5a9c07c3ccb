use Rattle.std.proofs.Common.{◌<◌, arith}
use Rattle.std.specs.Char.{digit_value}
use Rattle.std.proofs.lemmas.Int.Digits.{digits_value_more}
use Rattle.std.proofs.lemmas.Grind.{common_steps}
use Rattle.g4_chars.proofs.Hexadecimal.{value_more, six_fit, digit_at, digit_read}
use Rattle.g4_chars.proofs.escape.hexadecimal_value.Goals as goal

pub overflow_mul-value : goal.overflow_mul-value
overflow_mul-value c =
    let i = c.loop-digit.digit-index in
    let fit = six_fit i (omega arith) in
    omega (arith, value_more c.loop-digit.value i 0 c.loop-digit.invariant.1 (omega arith))

pub overflow_add-value : goal.overflow_add-value
overflow_add-value c =
    let i = c.loop-digit.digit-index in
    let fit = six_fit i (omega arith) in
    let below = digit_at c.args.digits.now i c.digit-item.result c.loop-digit-test.true c.requires.all in
    let digit : digit_value c.digit-item.result < 16 = grind arith in
    let read = digit_read c.to_digit.result (digit_value c.digit-item.result) c.to_digit.ensures.value digit in
    let result : c.unwrap_or.result < 16 = grind arith in
    omega (arith, value_more c.loop-digit.value i c.unwrap_or.result c.loop-digit.invariant.1 result)

pub loop-digit-preserved : goal.loop-digit-preserved
loop-digit-preserved c =
    let i = c.loop-digit.digit-index in
    let below = digit_at c.args.digits.now i c.digit-item.result c.loop-digit-test.true c.requires.all in
    let digit : digit_value c.digit-item.result < 16 = grind arith in
    let read = digit_read c.to_digit.result (digit_value c.digit-item.result) c.to_digit.ensures.value digit in
    let result : c.unwrap_or.result < 16 = grind arith in
    let more = digits_value_more 16 c.args.digits.now i c.loop-digit-test.true in
    (grind (arith, common_steps), value_more c.loop-digit.value i c.unwrap_or.result c.loop-digit.invariant.1 result)
