use Rattle.std.proofs.Common.{ap, ◌∙◌}
use Rattle.g4_states.proofs.Returns.{none_yet, next_plain, next_call}
use Rattle.g4_states.proofs.calls.callers.Goals.{in-Call+in_ok-add_return, in_default}
use Rattle.g4_states.proofs.calls.callers.Goals as goal

pub loop-state-init : goal.loop-state-init
loop-state-init g c = c.in_ok-lists.ensures ∙ none_yet c.args.states.now c.args.count

pub loop-state-preserved : goal.loop-state-preserved
loop-state-preserved g c = elim c.match-state.branch [
  | in-Call+in_ok-add_return w ↦ ap (λ v. v.items) w.lists-is
      ∙ next_call c.args.states.now c.loop-state.state-index c.state-item.result w.in-Call.rule w.in-Call.level w.in-Call.back
      c.loop-state.lists.items _ c.args.count c.loop-state-test.true c.state-item.is w.in-Call.is
      c.loop-state.invariant w.in_ok-add_return.ensures
  | in_default w ↦ ap (λ v. v.items) w.lists-is
      ∙ next_plain c.args.states.now c.loop-state.state-index c.state-item.result c.loop-state.lists.items c.args.count
      c.loop-state-test.true c.state-item.is w.in_default.not-Call c.loop-state.invariant
]
