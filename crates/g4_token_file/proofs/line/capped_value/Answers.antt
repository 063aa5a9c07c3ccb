use Rattle.std.proofs.Common.{◌*◌, ◌+◌, ℕ, ap, get_or, refl, ◌∙◌}
use Rattle.g4_token_file.specs.Answers.{capped}
use Rattle.g4_token_file.proofs.Values.{capped_more}
use Rattle.g4_token_file.proofs.line.capped_value.Goals as goal

pub loop-digit-preserved : goal.loop-digit-preserved
loop-digit-preserved c =
    let at = c.loop-digit in
    let digits = c.args.digits.now in
    c.min-value.ensures
    ∙ (ap (λ (more : ℕ). capped (at.value * 10 + more)) c.from.ensures
    ∙ capped_more digits at.digit-index at.value (get_or digits at.digit-index 0) c.requires c.loop-digit-test.true refl at.invariant)
