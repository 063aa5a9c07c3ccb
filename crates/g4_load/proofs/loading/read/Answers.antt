use Rattle.g4_load.proofs.Composed.{is_read, not_read}
use Rattle.g4_load.proofs.Counted.{fetch_counts}
use Rattle.g4_load.proofs.loading.read.Goals as goal

pub returns-in-Ok-clause-content : goal.returns-in-Ok-clause-content
returns-in-Ok-clause-content g c = λ files told.
    is_read files _ c.args.name.now c.in-Ok.fetched (c.in-Ok.ensures.content files told)

pub returns-in-Err-clause-content : goal.returns-in-Err-clause-content
returns-in-Err-clause-content g c = λ files told.
    not_read files _ c.args.name.now c.in-Err.halt c.halt_of_fetch.result (c.in-Err.ensures.content files told) c.halt_of_fetch.ensures

pub returns-in-Err-clause-counts : goal.returns-in-Err-clause-counts
returns-in-Err-clause-counts g c =
    fetch_counts _ _ _ _ c.args.name.now c.in-Err.halt c.halt_of_fetch.result c.in-Err.ensures.counts c.halt_of_fetch.ensures
