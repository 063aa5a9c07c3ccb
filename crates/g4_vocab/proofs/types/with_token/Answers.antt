use Rattle.std.proofs.Common.{sym, ◌∙◌}
use Rattle.std.proofs.lemmas.Result.{err_from_is_err_and}
use Rattle.g4_vocab.specs.Tables.{wanted_of}
use Rattle.g4_vocab.proofs.Keys.{no_number}
use Rattle.g4_vocab.proofs.types.with_token.Goals as goal

pub returns-in_err-number : goal.returns-in_err-number
returns-in_err-number c =
    let p = err_from_is_err_and c.from_residual.result c.from_residual.ensures.1 in
    rw (p.1, p.2) (no_number c.args.types (wanted_of c.args.wanted) c.in_err-number.field-0.0
    (sym c.has_token.ensures ∙ c.if-has_token.false) c.in_err-number.ensures)
