use Rattle.std.proofs.Common.{sym, inl, inr}
use Rattle.g4_productions.proofs.SetText.{spelled_set, bad_set}
use Rattle.g4_productions.proofs.set.set_of.Goals as goal

pub returns-in-Ok : goal.returns-in-Ok
returns-in-Ok c = sym (spelled_set c.args.content.now c.in-Ok.set c.in-Ok.ensures)

pub returns-in-Err-BadEscape : goal.returns-in-Err-BadEscape
returns-in-Err-BadEscape c = sym (bad_set c.args.content.now (inr (rw c.in-Err-BadEscape.field-0-is at c.in-Err-BadEscape.ensures)))

pub returns-in-Err-BadSet : goal.returns-in-Err-BadSet
returns-in-Err-BadSet c = sym (bad_set c.args.content.now (inl (rw c.in-Err-BadSet.field-0-is at c.in-Err-BadSet.ensures)))
