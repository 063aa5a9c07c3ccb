use Rattle.std.proofs.Common.{refl}
use Rattle.g4_names.specs.Places.{first_place as place_named}
use Rattle.g4_tags.proofs.OneReading.{read_or_stuck}
use Rattle.g4_tags.proofs.law.pieces_or_fault.Goals as goal

pub returns : goal.returns
returns c = λ names text pieced at p q.
    read_or_stuck (place_named names) text _ _ q.after p.signs q.signs p.read q.read refl refl q.no_tag
