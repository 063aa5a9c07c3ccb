use Rattle.std.proofs.Common.{◌≡◌, ◌+◌, ◌<◌, ◌++◌, ◌∷◌, [], ℕ, List, refl, sym, ◌∙◌, ap, subst, arith, length, Some}
use Rattle.std.specs.List.{slice_get}
use Rattle.std.proofs.lemmas.Option.{slice_get_read}
use Rattle.g4_cycles.specs.Edges.{Graph}
use Rattle.g4_net.specs.declared.network.State.TheVariants.{Call}
use Rattle.g4_net_check.proofs.Lists.{list_at}
use Rattle.g4_net_check.proofs.Returns.{AreReturns, returns_other, returns_call, returns_end}
use Rattle.g4_net_check.proofs.callers.return_states.Goals as goal
use Rattle.g4_net_check.proofs.callers.return_states.Goals.{in-Call+in_ok-push, in_default}

pub loop-state-preserved : goal.loop-state-preserved
loop-state-preserved g c =
    let states = c.args.states.now in
    let rules = c.args.rules in
    let i = c.loop-state.state-index in
    let lists = c.loop-state.lists.items in
    let here : slice_get states i ≡ Some c.state-item.result =
    slice_get_read states (length states) i c.state-item.result refl c.loop-state-test.true c.state-item.is in
    elim c.match-state.branch [
      | in-Call+in_ok-push w ↦ (
          let rule = w.in-Call.rule in
          let back = w.in-Call.back in
          let here_call : slice_get states i ≡ Some (Call rule w.in-Call.level back) = here ∙ ap (λ s. Some s) w.in-Call.is in
          let less : rule < length lists = omega (arith, c.requires i rule w.in-Call.level back here_call, c.loop-state.invariant.size) in
          let pushed = w.in_ok-push.ensures.items ∙ ap (λ (l : List ℕ). l ++ back ∷ [])
          (list_at lists rule w.index_mut.result.now less w.index_mut.ensures.value) in
          subst (λ (ls : Graph). AreReturns states rules (i + 1) ls) (sym (ap (λ v. v.items) w.lists-is))
          (returns_call states rules i rule w.in-Call.level back lists w.push.new.self here_call less pushed c.loop-state.invariant)
          )
      | in_default w ↦ subst (λ (ls : Graph). AreReturns states rules (i + 1) ls) (sym (ap (λ v. v.items) w.lists-is))
          (returns_other states rules i c.state-item.result lists here w.in_default.not-Call c.loop-state.invariant)
    ]

pub returns-clause-returns : goal.returns-clause-returns
returns-clause-returns g c = returns_end c.args.states.now c.args.rules c.loop-state.state-index c.loop-state.lists.items
    c.loop-state-test.false c.loop-state.invariant
