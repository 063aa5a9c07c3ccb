use Rattle.std.proofs.Common.{List, refl, sym, ◌∙◌, ap}
use Rattle.g4_base.specs.Place.{first_place}
use Rattle.g4_base.specs.declared.place.Place.{Place}
use Rattle.g4_names.specs.Places.{first_place as place_named}
use Rattle.g4_tags.specs.Pieces.{pieces_of, place_after_signs}
use Rattle.g4_tags.specs.declared.pieces.Piece.{Piece}
use Rattle.g4_tags.proofs.OneReading.{one_reading}
use Rattle.g4_tags.proofs.law.one_reading.Goals as goal

pub returns : goal.returns
returns c = λ names text a b p q.
    let same = one_reading (place_named names) text _ _ p.signs q.signs p.read q.read refl refl in
    let pieces = p.are ∙ ap (pieces_of first_place) same ∙ sym q.are in
    let ends = p.ends ∙ ap (place_after_signs first_place) same ∙ sym q.ends in
    ap (λ (x : List Piece × Place). record { pieces = x.0; end = x.1 }) (λ i. (pieces i, ends i))
