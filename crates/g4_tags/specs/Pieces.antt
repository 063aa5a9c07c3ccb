-- The pieces of a pattern's text: its tags, and the plain texts between them, as long as can be.
use Rattle.std.specs.Prelude.{◌≡◌, ◌≢◌, ℕ, List, [], ◌∷◌, ◌++◌, Option, Result, Ok, Err, length, replicate, encode_utf8, encode_utf8_all}
use Rattle.std.specs.Str.{chars}
use Rattle.g4_base.specs.Place.{first_place, place_after, place_past}
use Rattle.g4_base.specs.declared.place.Place.{Place}
use Rattle.g4_names.specs.Places as named
use Rattle.g4_tags.specs.Signs.{Reads, StopsAt, written}
use Rattle.g4_tags.specs.declared.fault.TagFault.{TagFault}
use Rattle.g4_tags.specs.declared.fault.TagFault.TheVariants.{Syntax, NoMemory}
use Rattle.g4_tags.specs.declared.pieces.Piece.{Piece}
use Rattle.g4_tags.specs.declared.pieces.Piece.TheVariants.{Plain, Tag}
use Rattle.g4_tags.specs.declared.pieces.Pieced.{Pieced}
use Rattle.g4_tags.specs.declared.pieces.PlainText.{PlainText}
use Rattle.g4_tags.specs.declared.sign.Sign.{Sign}
use Rattle.g4_tags.specs.declared.sign.Sign.TheVariants.{Letter, Escaped, Tagged}

-- a character, written from one place up to another, before what follows it
abbrev pub with_character : ℕ → Place → Place → List Piece → List Piece
with_character c from to (Plain plain ∷ pieces) = Plain (record {
  text = encode_utf8 c ++ plain.text;
  places = replicate (length (encode_utf8 c)) from ++ plain.places;
}) ∷ pieces
with_character c from to (Tag tag ∷ pieces) = Plain (record {
  text = encode_utf8 c;
  places = replicate (length (encode_utf8 c)) from ++ to ∷ [];
}) ∷ Tag tag ∷ pieces
with_character c from to [] = Plain (record {
  text = encode_utf8 c;
  places = replicate (length (encode_utf8 c)) from ++ to ∷ [];
}) ∷ []

-- a sign from one place up to another, before what follows it
abbrev pub with_sign : Sign → Place → Place → List Piece → List Piece
with_sign (Letter c) from to pieces = with_character c from to pieces
with_sign (Escaped c) from to pieces = with_character c from to pieces
with_sign (Tagged tag) from to pieces = Tag (record { tag = tag; place = from }) ∷ pieces

-- the pieces of signs that are written from this place on
abbrev pub pieces_of : Place → List Sign → List Piece
pieces_of place [] = []
pieces_of place (sign ∷ signs) =
    with_sign sign place (place_after place (written sign)) (pieces_of (place_after place (written sign)) signs)

-- the place after signs that are written from this place on
abbrev pub place_after_signs : Place → List Sign → Place
place_after_signs place [] = place
place_after_signs place (sign ∷ signs) = place_after_signs (place_after place (written sign)) signs

-- The characters have these pieces and end at this place, where what a tag names has a number.
pub record HasPieces (number : List ℕ → Option ℕ) (text : List ℕ) (pieced : Pieced) : Type 0 where
  pub signs : List Sign
  pub read : Reads number text signs []
  pub are : pieced.pieces ≡ pieces_of first_place signs
  pub ends : pieced.end ≡ place_after_signs first_place signs

-- the text has these pieces and ends at this place, where a tag names one of the names
abbrev pub IsPieced : List (List ℕ) → List ℕ → Pieced → Type 0
IsPieced names text pieced = HasPieces (named.first_place names) text pieced

-- the text has no pieces: at this byte is a `<` with which no tag begins
abbrev pub IsFaulty : List (List ℕ) → List ℕ → ℕ → Type 0
IsFaulty names text at = StopsAt (named.first_place names) text at

-- the pieces of the characters, or the byte at which they have none, unless memory runs out
abbrev pub GivesPiecesOf : (List ℕ → Option ℕ) → List ℕ → Result Pieced TagFault → Type 0
GivesPiecesOf number text (Ok pieced) = HasPieces number text pieced
GivesPiecesOf number text (Err (Syntax at)) = StopsAt number text at
GivesPiecesOf number text (Err NoMemory) = Unit {0}

-- the call answers with the pieces of the text, or with the byte at which it has none, unless memory runs out
abbrev pub GivesPieces : List (List ℕ) → List ℕ → Result Pieced TagFault → Type 0
GivesPieces names text result = GivesPiecesOf (named.first_place names) (chars text) result

-- neither `<` nor a backslash
abbrev pub IsOrdinary : ℕ → Type 0
IsOrdinary c = (c ≢ 60) × (c ≢ 92)

-- of each byte of characters that are written from this place on that of its character, and the place after them
abbrev pub places_from : Place → List ℕ → List Place
places_from place [] = place ∷ []
places_from place (c ∷ cs) = replicate (length (encode_utf8 c)) place ++ places_from (place_past place c) cs

-- the characters as one plain text
abbrev pub plain_from : Place → List ℕ → PlainText
plain_from place text = record { text = encode_utf8_all text; places = places_from place text }
