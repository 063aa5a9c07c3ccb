use Rattle.g4_fetch.specs.ByNames.{value_of}
use Rattle.g4_fetch.proofs.by_name.ByName.get.Goals as goal

pub returns : goal.returns
unfolding value_of
returns g c = c.get.ensures.value
