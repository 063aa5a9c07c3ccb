use Rattle.std.proofs.Common.{rules, ◌≡◌, ℕ, List, [], ◌∷◌, ◌++◌, length, ap, subst, ◌∙◌}
use Rattle.g4_net.specs.declared.network.State.{State}
use Rattle.g4_learned.specs.Tables.{AreKeys}
use Rattle.g4_learned.proofs.Starting.{keys_none, keys_more_state, keys_all}
use Rattle.g4_learned.proofs.starts.Starts.of.Goals as goal

pub loop-number-init : goal.loop-number-init
loop-number-init c = keys_none c.args.net.now _ _ c.in_ok-first.ensures.items c.new-keys.ensures.items

pub loop-number-preserved : goal.loop-number-preserved
loop-number-preserved c =
    let s = c.in_ok-push_starts.ensures in
    keys_more_state c.args.net.now c.as_slice-state-items.result.now c.loop-number.number _ _ _ _ _ s.0 c.loop-number-test.true
    c.state-item.is c.loop-number.invariant s.1 s.2
    (c.in_ok-push.ensures.items ∙ ap (λ (n : ℕ). c.loop-number.first.items ++ n ∷ [])
    (let e : c.len.result ≡ length c.push_starts.new.keys.items = search rules in e))

pub returns : goal.returns
returns c =
    subst (λ (ss : List (State (List ℕ))). AreKeys c.args.net.now ss c.loop-number.first.items c.loop-number.keys.items)
    c.as_slice-state-items.ensures
    (keys_all c.args.net.now c.as_slice-state-items.result.now c.loop-number.number _ _ c.loop-number-test.false c.loop-number.invariant)
