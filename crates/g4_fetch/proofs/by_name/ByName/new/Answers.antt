use Rattle.g4_fetch.proofs.ByNames.{no_value}
use Rattle.g4_fetch.proofs.by_name.ByName.new.Goals as goal

pub returns : goal.returns
returns g c = no_value _ c.new.ensures.empty
