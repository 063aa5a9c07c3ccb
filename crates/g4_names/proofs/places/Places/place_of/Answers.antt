use Rattle.std.proofs.Common.{◌∙◌}
use Rattle.g4_names.specs.Places.{place_in}
use Rattle.g4_names.proofs.places.Places.place_of.Goals as goal

pub returns : goal.returns
unfolding place_in
returns c = c.copied.ensures ∙ c.get.ensures.value
