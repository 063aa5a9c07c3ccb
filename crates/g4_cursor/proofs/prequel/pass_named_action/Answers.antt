use Rattle.g4_cursor.proofs.Moving.{passed, after}
use Rattle.g4_cursor.proofs.prequel.pass_named_action.Goals as goal

pub returns : goal.returns
returns c = after c.take.ensures (after c.take_name.ensures (after c.pass_other_name.ensures (passed c.take-2.ensures)))
