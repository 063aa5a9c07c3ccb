use Rattle.std.proofs.Common.{◌∙◌, List, ap, slice_get, ℕ, arith}
use Rattle.g4_words.proofs.Numbers.{first_byte, no_first_byte, no_number, parsed_number}
use Rattle.g4_words.proofs.reading.written_number.Goals as goal

pub returns-in_err-first : goal.returns-in_err-first
returns-in_err-first c =
    let none = c.in_err-first.ensures.value ∙ ap (λ (t : List ℕ). slice_get t 0) c.as_bytes.ensures.value in
    rw (c.from_residual.ensures) (no_number c.args.text.now (no_first_byte c.args.text.now none))

pub returns-then-first-le48 : goal.returns-then-first-le48
returns-then-first-le48 c =
    let is = first_byte c.args.text.now c.in_ok-first.first.now
    (c.in_ok-first.ensures.value ∙ ap (λ (t : List ℕ). slice_get t 0) c.as_bytes.ensures.value) in
    no_number c.args.text.now (λ past. omega (arith, c.if-first-le48.true, is, past))

pub returns : goal.returns
returns c =
    let is = first_byte c.args.text.now c.in_ok-first.first.now
    (c.in_ok-first.ensures.value ∙ ap (λ (t : List ℕ). slice_get t 0) c.as_bytes.ensures.value) in
    rw (c.ok.ensures.value) (parsed_number c.args.text.now c.parse.result (omega (arith, c.if-first-le48.false, is))
    c.parse.ensures.value.0)
