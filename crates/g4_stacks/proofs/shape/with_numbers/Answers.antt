use Rattle.std.proofs.Common.{rules, ◌≡◌, length, subst}
use Rattle.g4_stacks.specs.Canonical.{LeadBelow}
use Rattle.g4_stacks.proofs.Shapes.{leads_at, renumbered_more}
use Rattle.g4_stacks.proofs.shape.with_numbers.Goals as goal

pub bounds-numbers-node : goal.bounds-numbers-node
bounds-numbers-node c =
    let same : c.args.held.now.tops ≡ c.as_slice-top-items.result.now = search rules in
    let lead : LeadBelow (length c.args.numbers.now) c.as_slice-top-items.result.now =
    subst (LeadBelow (length c.args.numbers.now)) same c.requires in
    leads_at (length c.args.numbers.now) c.as_slice-top-items.result.now c.loop-top.top-index lead c.loop-top-test.true

pub loop-top-preserved : goal.loop-top-preserved
loop-top-preserved c =
    let more = renumbered_more c.args.numbers.now c.as_slice-top-items.result.now c.loop-top.top-index c.loop-top-test.true in
    search rules
