use Rattle.std.proofs.Common.{◌≡◌, ◌+◌, ◌≤◌, drop}
use Rattle.g4_base.specs.Place.{first_place, place_after}
use Rattle.g4_reader.proofs.fault.place_after.Given as goal

abbrev pub invariant-loop-character : goal.invariant-loop-character
invariant-loop-character l =
    (place_after l.place (drop l.character-index l.characters) ≡ place_after first_place l.characters)
    × (l.place.line ≤ l.character-index + 1) × (l.place.column ≤ l.character-index)
