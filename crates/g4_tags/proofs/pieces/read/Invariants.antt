use Rattle.std.proofs.Common.{◌-◌, length}
use Rattle.g4_names.specs.Places.{place_in}
use Rattle.g4_tags.proofs.Walked.{HasRead}
use Rattle.g4_tags.proofs.pieces.read.Given as goal

abbrev pub invariant-loop-at : goal.invariant-loop-at
invariant-loop-at l = HasRead (place_in l.places) l.text l.at l.joining

abbrev pub decreases-loop-at : goal.decreases-loop-at
decreases-loop-at l = length l.text - l.at
