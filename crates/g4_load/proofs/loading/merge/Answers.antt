use Rattle.std.proofs.Common.{Err, sym, subst}
use Rattle.std.proofs.lemmas.Result.{err_from_is_err_and}
use Rattle.g4_load.specs.Loading.{Merges}
use Rattle.g4_load.specs.declared.stop.Stop.{Stop}
use Rattle.g4_load.proofs.Composed.{composes_halts, unites_all, unites_not}
use Rattle.g4_load.proofs.Kept.{united_full}
use Rattle.g4_load.proofs.loading.merge.Goals as goal

pub returns-in_err-composites-clause-merges : goal.returns-in_err-composites-clause-merges
returns-in_err-composites-clause-merges c =
    let p = err_from_is_err_and c.from_residual.result c.from_residual.ensures.1 in
    rw (p.1, p.2)
    (composes_halts c.args.name.now c.args.fetched c.in_err-composites.field-0.0 c.in_err-composites.ensures.composes)

pub returns-in-Ok-clause-merges : goal.returns-in-Ok-clause-merges
returns-in-Ok-clause-merges c = unites_all c.args.name.now c.args.fetched c.in_ok-composites.composites
    c.in_ok-composites.ensures.composes c.in-Ok.united c.in-Ok.ensures

pub returns-in-Ok-clause-full : goal.returns-in-Ok-clause-full
returns-in-Ok-clause-full c =
    united_full c.args.fetched.table c.in_ok-composites.composites _ c.in-Ok.united c.in-Ok.ensures c.in_ok-composites.ensures.full

pub returns-in_ok-fault_of-in-Err-Fault-clause-merges : goal.returns-in_ok-fault_of-in-Err-Fault-clause-merges
returns-in_ok-fault_of-in-Err-Fault-clause-merges c =
    let name = c.args.name.now in
    let fault = c.in-Err-Fault.fault in
    subst (λ (s : Stop). Merges name c.args.fetched (Err s)) (sym c.in_ok-fault_of-in-Err-Fault.ensures)
    (unites_not name c.args.fetched c.in_ok-composites.composites c.in_ok-composites.ensures.composes fault
    (rw c.in-Err-Fault.field-0-is at c.in-Err-Fault.ensures))
