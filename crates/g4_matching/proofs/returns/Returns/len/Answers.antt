use Rattle.std.proofs.Common.{ap, length, arith}
use Rattle.g4_matching.proofs.Stores.{lists_length}
use Rattle.g4_matching.proofs.returns.Returns.len.Goals as goal

pub returns : goal.returns
returns c =
    let n = lists_length c.self.inside.nodes.items in
    let e = ap length c.self.view_is in
    omega (arith, c.len.ensures, c.self.inside.nodes.ok.0)
