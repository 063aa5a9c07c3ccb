use Rattle.std.proofs.lemmas.Result.{err_from_is_err_and}
use Rattle.g4_load.proofs.Composed.{merge_halts, read_halts, united_halts, united_loads}
use Rattle.g4_load.proofs.Counted.{merging_counts, united_counts}
use Rattle.g4_load.proofs.loading.load.Goals as goal

pub returns-in_err-fetched-clause-content : goal.returns-in_err-fetched-clause-content
returns-in_err-fetched-clause-content g c = λ files told.
    let p = err_from_is_err_and c.from_residual.result c.from_residual.ensures.1 in
    rw (p.1, p.2) (read_halts files _ c.args.name.now c.in_err-fetched.field-0.0 (c.in_err-fetched.ensures.content files told))

pub returns-in_err-united-clause-content : goal.returns-in_err-united-clause-content
returns-in_err-united-clause-content g c = λ files told.
    let p = err_from_is_err_and c.from_residual-in_err-united.result c.from_residual-in_err-united.ensures.1 in
    rw (p.1, p.2)
    (merge_halts files _ c.args.name.now c.in_ok-fetched.fetched (c.in_ok-fetched.ensures.content files told)
    c.in_err-united.field-0.0 c.in_err-united.ensures.merges)

pub returns-in_err-loaded-clause-content : goal.returns-in_err-loaded-clause-content
returns-in_err-loaded-clause-content g c = λ files told.
    let p = err_from_is_err_and c.from_residual-in_err-loaded.result c.from_residual-in_err-loaded.ensures.1 in
    rw (p.1, p.2)
    (united_halts files _ c.args.name.now c.in_ok-fetched.fetched (c.in_ok-fetched.ensures.content files told)
    c.in_ok-united.united c.in_ok-united.ensures.merges c.in_err-loaded.field-0.0 c.in_err-loaded.ensures)

pub returns-clause-content : goal.returns-clause-content
returns-clause-content g c = λ files told.
    united_loads files _ c.args.name.now c.in_ok-fetched.fetched (c.in_ok-fetched.ensures.content files told)
    c.in_ok-united.united c.in_ok-united.ensures.merges c.in_ok-loaded.loaded c.in_ok-loaded.ensures

pub returns-in_err-united-clause-counts : goal.returns-in_err-united-clause-counts
returns-in_err-united-clause-counts g c =
    let p = err_from_is_err_and c.from_residual-in_err-united.result c.from_residual-in_err-united.ensures.1 in
    rw (p.1, p.2) (merging_counts _ _ _ _ c.in_ok-fetched.fetched c.in_ok-fetched.ensures.counts c.args.name.now
    c.in_err-united.field-0.0 c.in_err-united.ensures.merges)

pub returns-in_err-loaded-clause-counts : goal.returns-in_err-loaded-clause-counts
returns-in_err-loaded-clause-counts g c =
    let p = err_from_is_err_and c.from_residual-in_err-loaded.result c.from_residual-in_err-loaded.ensures.1 in
    rw (p.1, p.2) (united_counts _ _ _ _ c.in_ok-fetched.fetched c.in_ok-fetched.ensures.counts c.args.name.now
    c.in_ok-united.united c.in_err-loaded.field-0.0 c.in_err-loaded.ensures)
