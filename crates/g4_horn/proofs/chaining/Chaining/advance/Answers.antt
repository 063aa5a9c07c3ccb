use Rattle.std.proofs.Common.{◌≡◌, ◌<◌, Some, length, refl, arith, rules}
use Rattle.std.specs.List.{slice_get}
use Rattle.std.proofs.lemmas.Option.{slice_get_read, slice_get_within}
use Rattle.g4_horn.proofs.Steps.{open_need, no_need}
use Rattle.g4_horn.proofs.chaining.Chaining.advance.Goals as goal

pub returns-in_ok-wait_for-clause-under_way : goal.returns-in_ok-wait_for-clause-under_way
returns-in_ok-wait_for-clause-under_way c =
    let clauses = c.args.clauses.now in
    let within : c.args.wait.clause < length clauses =
    slice_get_within clauses c.args.wait.clause c.requires.wait.clause c.requires.wait.at in
    let found : slice_get clauses c.args.wait.clause ≡ Some c.index-clauses-wait.result =
    slice_get_read clauses (length clauses) c.args.wait.clause c.index-clauses-wait.result refl within c.index-clauses-wait.is in
    λ count left known. open_need clauses count c.args.wait left c.index-clauses-wait.result c.as_slice-needs.result.now
    c.requires.wait found c.as_slice-needs.ensures.value
    c.args.self.now c.wait_for.new.self c.first_open-next.result c.first_open-next.ensures (omega arith) c.in_ok-wait_for.ensures.past
    c.in_ok-wait_for.ensures.added known

pub returns-in_ok-conclude-clause-under_way : goal.returns-in_ok-conclude-clause-under_way
returns-in_ok-conclude-clause-under_way c =
    let clauses = c.args.clauses.now in
    let within : c.args.wait.clause < length clauses =
    slice_get_within clauses c.args.wait.clause c.requires.wait.clause c.requires.wait.at in
    let found : slice_get clauses c.args.wait.clause ≡ Some c.index-clauses-wait.result =
    slice_get_read clauses (length clauses) c.args.wait.clause c.index-clauses-wait.result refl within c.index-clauses-wait.is in
    let within_head : c.index-clauses-wait.result.head < length c.args.self.now.follows.items = search rules in
    λ count left known. no_need clauses count c.args.wait left c.index-clauses-wait.result c.as_slice-needs.result.now c.requires.wait
    found c.as_slice-needs.ensures.value
    c.args.self.now c.conclude.new.self c.first_open-next.result c.first_open-next.ensures (omega arith) within_head
    c.in_ok-conclude.ensures.known c.in_ok-conclude.ensures.readied known
