use Rattle.std.proofs.Common.{[], List, reverse, refl, ap, sym, append-nil, arith}
use Rattle.std.specs.Prelude.{Some, None}
use Rattle.g4_trees.specs.declared.tree.Item.TheVariants as items
use Rattle.g4_trees.specs.declared.events.Event.{Event}
use Rattle.g4_trees.specs.Events.{event_lines}
use Rattle.g4_trees.specs.Steps.{events_from}
use Rattle.g4_trees.proofs.Appended.{adds_front, adds_so_far, leaves_all, leaves_same}
use Rattle.g4_trees.proofs.TreeLines.{line_added, line_begun}
use Rattle.g4_trees.proofs.events.push_events.Goals as goal
use Rattle.g4_trees.proofs.events.push_events.Goals.{in-Some+in_ok-push_event, in_default}

pub loop-item-init : goal.loop-item-init
loop-item-init g c =
    let all = event_lines c.args.rules.now c.args.tokens.now c.args.name.now (events_from [] c.args.items.now) in
    leaves_same all all _ c.args.out.now.items c.args.out.now.items
    (ap (λ (ends : List Event). event_lines c.args.rules.now c.args.tokens.now c.args.name.now
    (events_from (reverse ends) c.args.items.now)) (sym c.new-ends.ensures.items))
    (leaves_all all c.args.out.now.items)

pub returns-in_err-event : goal.returns-in_err-event
returns-in_err-event g c = adds_so_far _ _ _ _ c.loop-item.out.items _ _ c.from_residual.ensures.1 c.loop-item.invariant refl

pub returns-in_err-push_event : goal.returns-in_err-push_event
returns-in_err-push_event g c =
    let all = event_lines c.args.rules.now c.args.tokens.now c.args.name.now (events_from [] c.args.items.now) in
    adds_front _ all _ _ _ c.from_residual-in_err-push_event.ensures.1
    (line_begun c.args.rules.now c.args.tokens.now c.args.name.now (reverse c.loop-item.ends.items)
    (reverse c.next_event.new.ends.items) c.args.items.now c.loop-item.item-index (items.Enter 0 0 0) (Some c.in-Some.event)
    (omega arith) (rw c.in-Some.is at c.in_ok-event.ensures)
    all c.args.out.now.items c.loop-item.out.items _ c.loop-item.invariant c.in_err-push_event.ensures)

pub loop-item-preserved : goal.loop-item-preserved
loop-item-preserved g c =
    let added = line_added c.args.rules.now c.args.tokens.now c.args.name.now (reverse c.loop-item.ends.items)
    (reverse c.next_event.new.ends.items) c.args.items.now c.loop-item.item-index (items.Enter 0 0 0) in
    let all = event_lines c.args.rules.now c.args.tokens.now c.args.name.now (events_from [] c.args.items.now) in
    let before = c.loop-item.out.items in
    elim c.match-branch-2.branch [
      | in-Some+in_ok-push_event w ↦ rw w.out-is
          (added (Some w.in-Some.event) (omega arith) (rw w.in-Some.is at c.in_ok-event.ensures) all c.args.out.now.items before _
          c.loop-item.invariant w.in_ok-push_event.ensures)
      | in_default w ↦ rw w.out-is (added None (omega arith) (rw w.in_default.is at c.in_ok-event.ensures) all c.args.out.now.items
          before before c.loop-item.invariant (sym (append-nil before)))
    ]
