use Rattle.std.proofs.Common.{◌≡◌, ◌+◌, ℕ, List, Vec, length, Some, refl, sym, ap, ◌∙◌, subst, arith}
use Rattle.std.specs.Global.{Global}
use Rattle.std.specs.List.{slice_get}
use Rattle.std.proofs.lemmas.List.{length-append}
use Rattle.std.proofs.lemmas.Option.{slice_get_read}
use Rattle.g4_net.specs.declared.network.State.{State}
use Rattle.g4_net.specs.Network.{state_at}
use Rattle.g4_net_check.proofs.Nexts.{AreSteps, steps_more, steps_end}
use Rattle.g4_net_check.proofs.steps.steps.Goals as goal

pub loop-state-preserved : goal.loop-state-preserved
loop-state-preserved g c =
    let net = c.args.net.now in
    let i = c.loop-state.state-index in
    let states = c.as_slice-state-items.result.now in
    let here : state_at net i ≡ Some c.state-item.result =
    sym (ap (λ (ss : List (State g.row.L.Denot)). slice_get ss i) c.as_slice-state-items.ensures)
    ∙ slice_get_read states (length states) i c.state-item.result refl (omega arith) c.state-item.is in
    let longer : length c.push.new.self.items ≡ i + 1 =
    omega (arith, ap length c.in_ok-push.ensures.items, length-append {A = Vec ℕ Global}, c.loop-state.invariant.0) in (
      longer,
      subst (AreSteps net) (sym c.in_ok-push.ensures.items)
          (steps_more net c.args.nullable.now c.requires.nullable c.loop-state.graph.items i c.state-item.result
          c.in_ok-next_states.field-0 c.loop-state.invariant.0 here c.in_ok-next_states.ensures c.loop-state.invariant.1),
    )

pub returns-clause-steps : goal.returns-clause-steps
returns-clause-steps g c =
    let net = c.args.net.now in
    let size : length c.loop-state.graph.items ≡ length net.states =
    omega (arith, ap length c.as_slice-state-items.ensures, c.loop-state.invariant.0) in
    steps_end net c.loop-state.graph.items size c.loop-state.invariant.1
