use Rattle.std.proofs.Common.{rules, ◌≡◌, ℕ, List, Some, slice_get, sym, ap, subst, ◌∙◌}
use Rattle.std.proofs.lemmas.Option.{slice_get-get_or}
use Rattle.g4_net.specs.declared.network.State.{State}
use Rattle.g4_net.specs.declared.network.State.TheVariants.{Call}
use Rattle.g4_net.specs.Network.{start_of, state_at}
use Rattle.g4_closure.specs.Ends.{IsEnd}
use Rattle.g4_closure.proofs.Ending.{after_is}
use Rattle.g4_closure.proofs.filling.after_call.Goals as goal

pub returns-in_ok-ends-in-Some-Call : goal.returns-in_ok-ends-in-Some-Call
returns-in_ok-ends-in-Some-Call c =
    let first : c.in_ok-start-in-Some-Call.start ≡ start_of c.in-Some-Call.rule = search rules in
    let found = c.in-Some-Call.ensures.lookup in
    let called : c.in-Some-Call.field-0.now ≡ Call c.in-Some-Call.rule c.in-Some-Call.field-0-1 c.in-Some-Call.back = search rules in
    let is : state_at c.args.net.now c.args.group.state
    ≡ Some (Call c.in-Some-Call.rule c.in-Some-Call.field-0-1 c.in-Some-Call.back) =
    subst (λ (states : List (State (List ℕ))). slice_get states c.args.group.state
    ≡ Some (Call c.in-Some-Call.rule c.in-Some-Call.field-0-1 c.in-Some-Call.back)) c.as_slice.ensures
    (slice_get-get_or c.as_slice.result.now c.args.group.state c.in-Some-Call.field-0.now found.3.0
    ∙ ap (λ (s : State (List ℕ)). Some s) (sym found.1 ∙ called)) in
    after_is c.args.net.now c.args.explored.now.marks.items c.requires c.args.group c.in-Some-Call.rule c.in-Some-Call.field-0-1
    c.in-Some-Call.back c.in_ok-ends-in-Some-Call.field-0 is (subst (λ (p : ℕ). IsEnd c.args.explored.now.marks.items p
    c.in_ok-ends-in-Some-Call.field-0) first c.in_ok-ends-in-Some-Call.ensures)
