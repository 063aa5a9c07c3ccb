use Rattle.std.proofs.Common.{None, get_or, sym}
use Rattle.g4_core.proofs.Reading.{start_left}
use Rattle.g4_core.proofs.machine.Core.read_start.Goals as goal

pub returns-in-None : goal.returns-in-None
returns-in-None g c =
    start_left c.args.worker c.args.file c.args.question c.args.path.now
    (get_or c.args.self.now.starts c.args.path.now.start None) (sym c.in-None.ensures) c.left_to_learn.result c.left_to_learn.ensures
