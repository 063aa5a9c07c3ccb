use Rattle.std.proofs.Common.{ℕ, ◌++◌, List, map, sym, ap, subst, ◌∙◌}
use Rattle.std.proofs.lemmas.List.{take_all}
use Rattle.g4_learned.specs.Guards.{AreGuardsOf}
use Rattle.g4_learned.proofs.Placing.{more_keys}
use Rattle.g4_learned.proofs.starts.push_starts.Goals as goal

pub loop-guard-preserved : goal.loop-guard-preserved
loop-guard-preserved c = more_keys c.args.number c.deref-guard-items.result.now c.loop-guard.guard-index _ c.args.keys.now.items
    c.loop-guard.keys.items _ c.loop-guard-test.true c.loop-guard.invariant c.in_ok-push.ensures.items

pub returns : goal.returns
returns c = (
  c.deref-guard-items.result.now,
  subst (AreGuardsOf c.args.net.now c.args.number c.args.state.now) (sym c.deref-guard-items.ensures.value) c.in_ok-guards.ensures,
  c.loop-guard.invariant ∙ ap (λ (ls : List ℕ). c.args.keys.now.items ++ map (λ (l : ℕ). let key : ℕ × ℕ = (c.args.number, l) in key) ls)
      (take_all c.loop-guard.guard-index c.deref-guard-items.result.now c.loop-guard-test.false),
)
