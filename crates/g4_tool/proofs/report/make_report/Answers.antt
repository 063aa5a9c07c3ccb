use Rattle.std.proofs.lemmas.Result.{err_from_is_err_and}
use Rattle.g4_tool.proofs.Missed.{no_fewer}
use Rattle.g4_tool.proofs.report.make_report.Goals as goal

pub returns-in_err-report-in-Err-Stop-clause-counts : goal.returns-in_err-report-in-Err-Stop-clause-counts
returns-in_err-report-in-Err-Stop-clause-counts g c =
    let p = err_from_is_err_and c.from_residual.result c.from_residual.ensures.1 in
    let counts = rw c.in-Err-Stop.field-0-is at c.in-Err-Stop.ensures.counts in
    rw (p.1, p.2) (counts.0, no_fewer _ _ _ c.in-Err-Stop.stop counts.1)
