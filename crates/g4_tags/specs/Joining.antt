-- The pieces so far.
use Rattle.std.specs.Prelude.{◌≡◌, List, [], ◌∷◌, ◌++◌, Option, Some, None, string_bytes}
use Rattle.g4_base.specs.declared.place.Place.{Place}
use Rattle.g4_tags.specs.Pieces.{pieces_of}
use Rattle.g4_tags.specs.declared.joining.Joining.{Joining}
use Rattle.g4_tags.specs.declared.joining.BegunText.{BegunText}
use Rattle.g4_tags.specs.declared.pieces.Piece.{Piece}
use Rattle.g4_tags.specs.declared.pieces.Piece.TheVariants.{Plain, Tag}
use Rattle.g4_tags.specs.declared.sign.Sign.{Sign}

-- a plain text that goes on at this place, before what follows it
abbrev pub with_text : BegunText → Place → List Piece → List Piece
with_text begun place (Plain plain ∷ pieces) = Plain (record {
  text = string_bytes begun.text ++ plain.text;
  places = begun.places.items ++ plain.places;
}) ∷ pieces
with_text begun place (Tag tag ∷ pieces) = Plain (record {
  text = string_bytes begun.text;
  places = begun.places.items ++ place ∷ [];
}) ∷ Tag tag ∷ pieces
with_text begun place [] = Plain (record { text = string_bytes begun.text; places = begun.places.items ++ place ∷ [] }) ∷ []

-- the same where there is one
abbrev pub with_begun : Option BegunText → Place → List Piece → List Piece
with_begun None place pieces = pieces
with_begun (Some begun) place pieces = with_text begun place pieces

-- all pieces, once these follow
abbrev pub joined : Joining → List Piece → List Piece
joined j pieces = j.pieces.items ++ with_begun j.begun j.place pieces

-- the pieces so far are those of signs that were seen
abbrev pub HasJoined : Place → List Sign → Joining → Type 0
HasJoined start seen j = (signs : List Sign) → pieces_of start (seen ++ signs) ≡ joined j (pieces_of j.place signs)
