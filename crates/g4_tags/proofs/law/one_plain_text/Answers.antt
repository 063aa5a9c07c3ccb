use Rattle.g4_names.specs.Places.{first_place as place_named}
use Rattle.g4_tags.proofs.Plain.{one_plain}
use Rattle.g4_tags.proofs.law.one_plain_text.Goals as goal

pub returns : goal.returns
returns c = λ names text some all. one_plain (place_named names) text some all
