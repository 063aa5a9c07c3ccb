use Rattle.std.proofs.Common.{◌≡◌, length, Some, refl, arith}
use Rattle.std.specs.List.{slice_get}
use Rattle.std.proofs.lemmas.Option.{slice_get_read}
use Rattle.g4_net_check.proofs.Clauses.{clauses_more, clauses_end}
use Rattle.g4_net_check.proofs.nullable.clauses_of.Goals as goal

pub loop-number-preserved : goal.loop-number-preserved
loop-number-preserved g c =
    let states = c.args.states.now in
    let i = c.loop-number.number in
    let item = c.index-states-number.result in
    let here : slice_get states i ≡ Some item = slice_get_read states (length states) i item refl (omega arith) c.index-states-number.is in
    clauses_more states i item c.loop-number.clauses.items c.add_clauses.new.clauses.items here c.in_ok-add_clauses.ensures
    c.loop-number.invariant

pub returns : goal.returns
returns g c = clauses_end c.args.states.now c.loop-number.number c.loop-number.clauses.items (omega arith) c.loop-number.invariant
