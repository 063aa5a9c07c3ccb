use Rattle.std.proofs.Common.{rules, IsTrue, sym, ◌∙◌}
use Rattle.g4_closure.proofs.Remaining.{sole}
use Rattle.g4_closure.proofs.left.sole_alternative.Goals as goal

pub returns : goal.returns
returns c = sole c.args.net.now c.args.set.now c.args.groups.now c.in_ok-first.first
    (sym c.first.ensures.value ∙ sym c.copied.ensures ∙ c.in_ok-first.was)
    (c.are_of.ensures.0 (let held : IsTrue c.are_of.result = search rules in held))
    (c.goes_on.ensures (let held : IsTrue c.goes_on.result = search rules in held))
