use Rattle.std.proofs.Common.{◌≡◌, List, ℕ, Some, slice_get, sym, ap, subst, ◌∙◌}
use Rattle.std.proofs.lemmas.Option.{slice_get-get_or}
use Rattle.g4_net.specs.declared.network.State.{State}
use Rattle.g4_net.specs.Network.{state_at}
use Rattle.g4_closure.proofs.Ending.{more_ends}
use Rattle.g4_closure.proofs.exploring.Explored.visit.Goals as goal

pub returns-in-None : goal.returns-in-None
returns-in-None c =
    let found = c.in-Some.ensures.lookup in
    let is : state_at c.args.net.now c.args.at.state ≡ Some c.in-Some.state.now =
    subst (λ (states : List (State (List ℕ))). slice_get states c.args.at.state ≡ Some c.in-Some.state.now) c.as_slice.ensures
    (slice_get-get_or c.as_slice.result.now c.args.at.state c.in-Some.state.now found.3.0
    ∙ ap (λ (s : State (List ℕ)). Some s) (sym found.1)) in
    more_ends c.args.net.now c.args.self.now.marks.items c.leave.new.self.marks.items c.args.at.state c.in-Some.state.now is
    c.leave.ensures c.requires
