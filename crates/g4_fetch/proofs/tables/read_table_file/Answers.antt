use Rattle.std.proofs.Common.{List, ℕ, Ok, sym, subst}
use Rattle.std.proofs.lemmas.Result.{err_from_is_err_and}
use Rattle.g4_fetch.specs.Files.{Opens}
use Rattle.g4_fetch.specs.Tables.{read}
use Rattle.g4_fetch.proofs.TableReadings.{table_not_opened, table_not_read}
use Rattle.g4_fetch.proofs.tables.read_table_file.Goals as goal

pub returns-in_err-bytes-clause-content : goal.returns-in_err-bytes-clause-content
returns-in_err-bytes-clause-content g c = λ files told.
    let p = err_from_is_err_and c.from_residual.result c.from_residual.ensures.1 in
    rw (p.1, p.2) (table_not_opened files c.args.name.now c.in_err-bytes.field-0.0 (c.in_err-bytes.ensures.content files told))

pub returns-in-Ok-clause-content : goal.returns-in-Ok-clause-content
returns-in-Ok-clause-content g c = λ files told.
    read c.as_slice.result.now c.in-Ok.table
    (subst (λ (bs : List ℕ). Opens files c.args.name.now (Ok bs)) (sym c.as_slice.ensures.value) (c.in_ok-bytes.ensures.content files told))
    c.in-Ok.ensures

pub returns-clause-content : goal.returns-clause-content
returns-clause-content g c = λ files told.
    table_not_read files c.args.name.now c.as_slice.result.now c.in-Err.fault c.halt_of.result
    (subst (λ (bs : List ℕ). Opens files c.args.name.now (Ok bs)) (sym c.as_slice.ensures.value) (c.in_ok-bytes.ensures.content files told))
    c.in-Err.ensures c.halt_of.ensures
