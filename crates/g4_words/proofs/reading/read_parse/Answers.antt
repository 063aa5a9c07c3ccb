use Rattle.std.proofs.lemmas.Result.{err_from_is_err_and}
use Rattle.g4_words.proofs.Outputs.{no_flags, no_jobs, no_learned, no_parse, no_rows}
use Rattle.g4_words.proofs.reading.read_parse.Goals as goal

pub returns-in_err-jobs : goal.returns-in_err-jobs
returns-in_err-jobs c =
    let p = err_from_is_err_and c.from_residual.result c.from_residual.ensures.1 in
    rw (p.1, p.2) (no_jobs _ c.in_err-jobs.field-0.0 _ c.value_of-3.ensures c.in_err-jobs.ensures)

pub returns-in_err-rows : goal.returns-in_err-rows
returns-in_err-rows c =
    let p = err_from_is_err_and c.from_residual-in_err-rows.result c.from_residual-in_err-rows.ensures.1 in
    rw (p.1, p.2) (no_rows _ c.in_err-rows.field-0.0 _ c.value_of-4.ensures c.in_err-rows.ensures)

pub returns-in_err-flags : goal.returns-in_err-flags
returns-in_err-flags c =
    let p = err_from_is_err_and c.from_residual-in_err-flags.result c.from_residual-in_err-flags.ensures.1 in
    rw (p.1, p.2) (no_flags _ c.in_err-flags.field-0.0 _ c.value_of-5.ensures c.in_err-flags.ensures)

pub returns-in_err-output : goal.returns-in_err-output
returns-in_err-output c =
    let p = err_from_is_err_and c.from_residual-in_err-output.result c.from_residual-in_err-output.ensures.1 in
    rw (p.1, p.2) (no_parse _ c.in_err-output.field-0.0 c.in_err-output.ensures)

pub returns-in_err-learned : goal.returns-in_err-learned
returns-in_err-learned c =
    let p = err_from_is_err_and c.from_residual-in_err-learned.result c.from_residual-in_err-learned.ensures.1 in
    rw (p.1, p.2) (no_learned _ c.in_ok-output.output c.in_err-learned.field-0.0 c.in_ok-output.ensures c.in_err-learned.ensures)
