use Rattle.std.proofs.lemmas.Result.{err_from_is_err_and}
use Rattle.g4_tool.proofs.Reports.{stops_unchecked, reports_checked}
use Rattle.g4_tool.proofs.report.run_check.Goals as goal

pub returns-in_err-grammar-clause-content : goal.returns-in_err-grammar-clause-content
returns-in_err-grammar-clause-content g c = λ files words told command.
    let p = err_from_is_err_and c.from_residual.result c.from_residual.ensures.1 in
    rw (p.1, p.2) (stops_unchecked files words _ command c.in_err-grammar.field-0.0
    (rw (c.as_str-name.ensures, c.named-library.ensures) at (c.in_err-grammar.ensures.content files told)))

pub returns-clause-content : goal.returns-clause-content
returns-clause-content g c = λ files words told command.
    reports_checked files words _ command c.in_ok-grammar.grammar _
    (rw (c.as_str-name.ensures, c.named-library.ensures) at (c.in_ok-grammar.ensures.content files told)) c.in_ok-report.ensures
