use Rattle.g4_core.proofs.Finding.{past, read}
use Rattle.g4_core.proofs.sights.item_at.Goals as goal

pub returns-in-Some : goal.returns-in-Some
returns-in-Some g c = read c.args.list.now c.args.at c.in-Some.item.now c.in-Some.ensures.lookup.3.0 c.in-Some.ensures.lookup.1

pub returns-in-None : goal.returns-in-None
returns-in-None g c = λ a h. past c.args.list.now c.args.at a c.in-None.ensures.lookup.3 h
