use Rattle.std.proofs.Common.{take}
use Rattle.g4_names.specs.Places.{ArePlaces}
use Rattle.g4_names.proofs.places.places_of.Given as goal

abbrev pub invariant-loop-place : goal.invariant-loop-place
invariant-loop-place l = ArePlaces (take l.place l.names) l.places
