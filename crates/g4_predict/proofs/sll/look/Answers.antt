use Rattle.std.proofs.Common.{rules, IsTrue}
use Rattle.g4_configs.specs.Configs.{Holds}
use Rattle.g4_net.specs.Lookahead.{Next}
use Rattle.g4_predict.proofs.Ending.{left_several, several_matter}
use Rattle.g4_predict.proofs.sll.look.Goals as goal

pub returns-then-matters : goal.returns-then-matters
returns-then-matters c =
    let held : IsTrue c.in_ok-matters-in-Several.matters = search rules in
    several_matter c.args.net.now (Next c.args.net.now (Holds c.args.set) c.args.symbol) (Holds c.in-Several.next) c.args.k
    (left_several c.args.net.now (Next c.args.net.now (Holds c.args.set) c.args.symbol) c.in_ok-left.left c.in-Several.next
    c.in-Several.is c.in_ok-left.ensures) (c.in_ok-matters-in-Several.ensures.0 held)
