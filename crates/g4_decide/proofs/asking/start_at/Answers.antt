use Rattle.g4_configs.specs.Configs.{Holds}
use Rattle.g4_decide.proofs.Starting.{start_row}
use Rattle.g4_net.specs.Allowed.{Allows}
use Rattle.g4_decide.proofs.asking.start_at.Goals as goal

pub returns : goal.returns
returns c =
    start_row c.args.net.now c.args.decision c.args.condition (Allows c.in_ok-allowed.allowed) (Holds c.in_ok-set.set) c.in_ok-row.row
    c.in_ok-allowed.ensures c.in_ok-set.ensures c.in_ok-row.ensures
