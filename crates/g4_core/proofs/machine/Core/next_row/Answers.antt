use Rattle.g4_core.proofs.Filling.{next_found}
use Rattle.g4_core.proofs.machine.Core.next_row.Goals as goal

pub returns-then-has_room : goal.returns-then-has_room
returns-then-has_room g c =
    next_found c.args.self.now c.args.path.now c.next_missing.result (c.has_room.ensures.0 c.if-has_room.true) c.next_missing.ensures
