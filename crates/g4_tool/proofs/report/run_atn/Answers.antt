use Rattle.std.proofs.lemmas.Result.{err_from_is_err_and}
use Rattle.g4_tool.proofs.Reports.{stops_unlisted, reports_listed}
use Rattle.g4_tool.proofs.report.run_atn.Goals as goal

pub returns-in_err-listing-clause-content : goal.returns-in_err-listing-clause-content
returns-in_err-listing-clause-content g c = λ files words told command.
    let p = err_from_is_err_and c.from_residual.result c.from_residual.ensures.1 in
    rw (p.1, p.2) (stops_unlisted files words _ command c.in_err-listing.field-0.0
    (rw (c.as_str-name.ensures, c.as_str-rule.ensures, c.named-library.ensures) at (c.in_err-listing.ensures.content files told)))

pub returns-clause-content : goal.returns-clause-content
returns-clause-content g c = λ files words told command.
    reports_listed files words _ command c.in_ok-listing.listing _
    (rw (c.as_str-name.ensures, c.as_str-rule.ensures, c.named-library.ensures) at (c.in_ok-listing.ensures.content files told))
    c.in_ok-report.ensures
