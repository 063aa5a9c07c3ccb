use Rattle.g4_load.specs.Locating.{passes, fails}
use Rattle.g4_load.proofs.Built.{numbers_give}
use Rattle.g4_load.proofs.loading.load_united.Goals as goal

pub returns-in-Ok : goal.returns-in-Ok
returns-in-Ok c =
    let table = c.args.united.table in
    let source = c.args.united.whole.source in
    let numbered = c.in-Ok.ensures.numbered in
    let loaded = c.in_ok-loaded-in-Ok.loaded in
    passes loaded (numbers_give table source c.in-Ok.numbered numbered loaded (c.in_ok-loaded-in-Ok.ensures table numbered))

pub returns-in-Err-Fault : goal.returns-in-Err-Fault
returns-in-Err-Fault c =
    fails c.in-Err-Fault.fault _ (rw c.in-Err-Fault.field-0-is at c.in-Err-Fault.ensures.numbered) c.in_ok-located-in-Err-Fault.ensures
