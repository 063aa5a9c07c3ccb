use Rattle.std.proofs.Common.{◌≡◌, ◌+◌, ◌<◌, ◌∷◌, length, drop, sym, subst, arith}
use Rattle.g4_core.proofs.Walking.{Walked, from_here, first_open, walk_begins, walk_opens, walk_on, walk_right}
use Rattle.g4_core.proofs.machine.Core.next_slot.Goals as goal

pub returns-in-Some : goal.returns-in-Some
returns-in-Some g c =
    let a = g.A.Automaton in
    first_open a.starts a.leads c.args.self.now c.args.path.now c.in-Some.slot c.in-Some.ensures.0 c.in-Some.ensures.1

pub loop-at-init : goal.loop-at-init
loop-at-init g c =
    let a = g.A.Automaton in walk_begins a.starts a.leads c.args.self.now c.args.path.now c.requires c.in_default.ensures

pub returns-in-Some-cell_slot : goal.returns-in-Some-cell_slot
returns-in-Some-cell_slot g c =
    let a = g.A.Automaton in
    let lt : c.loop-at.at < length c.args.path.now.looked.items = omega arith in
    let from = from_here c.args.path.now.looked.items c.loop-at.at c.index-looked.result.now lt c.index-looked.ensures in
    walk_opens a.starts a.leads c.args.self.now c.args.path.now c.loop-at.content.now c.loop-at.at c.index-looked.result.now
    c.loop-at.invariant from c.in-Some-cell_slot.slot c.in-Some-cell_slot.ensures.0 c.in-Some-cell_slot.ensures.1

pub loop-at-preserved : goal.loop-at-preserved
loop-at-preserved g c =
    let a = g.A.Automaton in
    let lt : c.loop-at.at < length c.args.path.now.looked.items = omega arith in
    let from = from_here c.args.path.now.looked.items c.loop-at.at c.index-looked.result.now lt c.index-looked.ensures in
    subst (λ (y : g.row.C.Denot). Walked a.starts a.leads c.args.self.now c.args.path.now y
    (drop (c.loop-at.at + 1) c.args.path.now.looked.items)) (sym c.content_after-content.ensures)
    (walk_on a.starts a.leads c.args.self.now c.args.path.now c.loop-at.content.now c.loop-at.at c.index-looked.result.now
    c.loop-at.invariant from c.in_default-cell_slot.ensures)
