use Rattle.std.proofs.Common.{rules, length, ap, arith}
use Rattle.g4_matching.proofs.Stores.{node_place, list_of_place, list_zero}
use Rattle.g4_matching.proofs.returns.Returns.top.Goals as goal

pub returns-then-number-eq0 : goal.returns-then-number-eq0
returns-then-number-eq0 c = list_zero _ _ _ c.self.view_is c.if-number-eq0.true

pub returns : goal.returns
returns c = list_of_place c.self.inside.nodes.items c.self.inside.numbers _ _ _ c.self.view_is c.self.invariant c.if-number-eq0.false
    c.requires (search rules)

pub bounds-nodes-number : goal.bounds-nodes-number
bounds-nodes-number c = let n = node_place c.self.inside.nodes.items _ _ c.self.view_is c.requires c.if-number-eq0.false in
    omega (arith, ap length c.as_slice-nodes.ensures.value)
