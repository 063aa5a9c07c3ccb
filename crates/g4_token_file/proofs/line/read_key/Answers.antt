use Rattle.std.proofs.Common.{sym, ◌∙◌}
use Rattle.std.proofs.lemmas.Result.{err_from_is_err_and}
use Rattle.g4_token_file.proofs.WholeTokens.{other_kind, token_fault}
use Rattle.g4_token_file.proofs.line.read_key.Goals as goal

pub returns-in_err-kind : goal.returns-in_err-kind
returns-in_err-kind c =
    let p = err_from_is_err_and c.from_residual.result c.from_residual.ensures.1 in
    rw (p.1, p.2) (token_fault c.args.text.now c.in_err-kind.field-0.0 c.in_err-kind.ensures)

pub returns-else-is_literal : goal.returns-else-is_literal
returns-else-is_literal c = other_kind c.args.text.now c.in_ok-kind.kind c.in_ok-kind.ensures
    (sym c.is_name.ensures ∙ c.if-is_name.false) (sym c.is_literal.ensures ∙ c.if-is_literal.false)
