use Rattle.std.proofs.Common.{◌<◌, length, arith}
use Rattle.g4_core.proofs.Walking.{from_here, list_begins, list_missing, list_on}
use Rattle.g4_core.proofs.machine.Core.missing_along.Goals as goal

pub loop-at-init : goal.loop-at-init
loop-at-init g c = list_begins c.args.self.now.rows c.args.path.now c.requires

pub returns-in-Some : goal.returns-in-Some
returns-in-Some g c =
    let lt : c.loop-at.at < length c.args.path.now.looked.items = omega arith in
    let from = from_here c.args.path.now.looked.items c.loop-at.at c.index-looked.result.now lt c.index-looked.ensures in
    let h = c.in-Some.ensures in
    list_missing c.args.self.now.rows c.args.path.now c.loop-at.at c.index-looked.result.now c.loop-at.invariant from
    c.in-Some.content.now h.0 h.1 h.2

pub loop-at-preserved : goal.loop-at-preserved
loop-at-preserved g c =
    let lt : c.loop-at.at < length c.args.path.now.looked.items = omega arith in
    let from = from_here c.args.path.now.looked.items c.loop-at.at c.index-looked.result.now lt c.index-looked.ensures in
    list_on c.args.self.now.rows c.args.path.now c.loop-at.at c.index-looked.result.now c.loop-at.invariant from c.in_default.ensures
