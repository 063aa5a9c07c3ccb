use Rattle.std.proofs.Common.{◌<◌, List, length, sym, subst}
use Rattle.std.specs.List.{All}
use Rattle.g4_horn.specs.declared.clause.Clause.{Clause}
use Rattle.g4_net.specs.declared.network.State.{State}
use Rattle.g4_net_check.specs.Clauses.{AreClauses}
use Rattle.g4_net_check.proofs.Clauses.{heads_fit, nullability}
use Rattle.g4_net_check.proofs.nullable.nullable.Goals as goal

pub consequences-requires : goal.consequences-requires
consequences-requires g c = subst (λ (cs : List Clause). All (λ (k : Clause). k.head < length c.as_slice-states.result.now) cs)
    (sym c.as_slice.ensures.value) (heads_fit c.as_slice-states.result.now c.in_ok-clauses.clauses.items c.in_ok-clauses.ensures)

pub returns : goal.returns
returns g c =
    let net = c.args.net.now in
    let clauses = c.as_slice.result.now in
    let are : AreClauses net.states clauses =
    subst (λ (cs : List Clause). AreClauses net.states cs) (sym c.as_slice.ensures.value)
    (subst (λ (ss : List (State g.row.L.Denot)). AreClauses ss c.in_ok-clauses.clauses.items) c.as_slice-states.ensures
    c.in_ok-clauses.ensures) in
    λ n. (
      λ said. (nullability net clauses are n).0 ((c.in_ok-answers.ensures.follows n).0 said),
      λ null. (c.in_ok-answers.ensures.follows n).1 ((nullability net clauses are n).1 null),
    )
