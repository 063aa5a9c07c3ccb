use Rattle.std.proofs.lemmas.Result.{err_from_is_err_and}
use Rattle.g4_fetch.proofs.Counted.{counts_after}
use Rattle.g4_fetch.proofs.Readings.{not_opened}
use Rattle.g4_fetch.proofs.reading.read_file.Goals as goal

pub returns-in_err-bytes-clause-content : goal.returns-in_err-bytes-clause-content
returns-in_err-bytes-clause-content g c = λ files told.
    let p = err_from_is_err_and c.from_residual.result c.from_residual.ensures.1 in
    rw (p.1, p.2) (not_opened files c.args.name.now c.in_err-bytes.field-0.0 (c.in_err-bytes.ensures.content files told))

pub returns-clause-counts : goal.returns-clause-counts
returns-clause-counts g c =
    let faults = g.S.Shelf.faults c.open.new.shelf in
    let misses = g.S.Shelf.misses c.open.new.shelf in
    counts_after (g.S.Shelf.faults c.args.shelf.now) faults (g.S.Shelf.misses c.args.shelf.now) misses
    c.in_ok-bytes.ensures.counts.0 c.in_ok-bytes.ensures.counts.1 c.read_bytes.result (c.read_bytes.ensures.counts faults misses)
