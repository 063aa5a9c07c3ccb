use Rattle.std.proofs.Common.{Ok}
use Rattle.std.proofs.lemmas.Result.{err_from_is_err_and}
use Rattle.g4_load.specs.Listing.{FromRule}
use Rattle.g4_load.proofs.Built.{fault_of_one, made_of, not_loaded}
use Rattle.g4_load.proofs.listing.list_named.Goals as goal

pub returns-in_err-grammar-clause-content : goal.returns-in_err-grammar-clause-content
returns-in_err-grammar-clause-content g c = λ files told.
    let p = err_from_is_err_and c.from_residual.result c.from_residual.ensures.1 in
    rw (p.1, p.2) (not_loaded files _ c.args.name.now (FromRule c.args.rule.now) c.in_err-grammar.field-0.0
    (c.in_err-grammar.ensures.content files told))

pub returns-in-Ok-clause-content : goal.returns-in-Ok-clause-content
returns-in-Ok-clause-content g c = λ files told.
    made_of files _ c.args.name.now (FromRule c.args.rule.now) c.in_ok-grammar.grammar (Ok c.in-Ok.listing)
    (c.in_ok-grammar.ensures.content files told) c.in-Ok.ensures

pub returns-in-Err-Fault-clause-content : goal.returns-in-Err-Fault-clause-content
returns-in-Err-Fault-clause-content g c = λ files told.
    fault_of_one files _ c.args.name.now (FromRule c.args.rule.now) c.in_ok-grammar.grammar c.in-Err-Fault.fault _
    (c.in_ok-grammar.ensures.content files told) (rw c.in-Err-Fault.field-0-is at c.in-Err-Fault.ensures)
    c.in_ok-fault_of-in-Err-Fault.ensures
