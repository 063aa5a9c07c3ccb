use Rattle.g4_fetch.specs.Reading.{read}
use Rattle.g4_fetch.proofs.Readings.{not_read, not_read_counts}
use Rattle.g4_fetch.proofs.reading.read_bytes.Goals as goal

pub returns-in-Ok-clause-content : goal.returns-in-Ok-clause-content
returns-in-Ok-clause-content c = λ files opens. read _ c.in-Ok.source opens c.in-Ok.ensures.reading

pub returns-in-Err-clause-content : goal.returns-in-Err-clause-content
returns-in-Err-clause-content c = λ files opens.
    not_read files _ _ c.in-Err.fault _ opens c.in-Err.ensures.reading c.halt_of.ensures

pub returns-in-Err-clause-counts : goal.returns-in-Err-clause-counts
returns-in-Err-clause-counts c = λ faults misses. not_read_counts _ _ faults misses _ c.halt_of.ensures
