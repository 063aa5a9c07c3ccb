-- A text without `<` and backslashes is one plain text.
use Rattle.std.proofs.Common.{◌≡◌, ◌≢◌, ℕ, List, [], ◌∷◌, ◌++◌, Option, length, map, replicate, refl, sym, ap, encode_utf8}
use Rattle.std.specs.List.{All}
use Rattle.std.proofs.lemmas.List.{append-nil}
use Rattle.g4_base.specs.Place.{first_place, place_after, place_past}
use Rattle.g4_base.specs.declared.place.Place.{Place}
use Rattle.g4_tags.specs.Pieces.{HasPieces, IsOrdinary, pieces_of, place_after_signs, plain_from, with_character}
use Rattle.g4_tags.specs.Signs.{Reads, nothing, one_more}
use Rattle.g4_tags.specs.declared.pieces.Piece.TheVariants.{Plain}
use Rattle.g4_tags.specs.declared.sign.Sign.{Sign}
use Rattle.g4_tags.specs.declared.sign.Sign.TheVariants.{Letter}
use Rattle.g4_tags.proofs.Names.{all_head, all_tail}

-- its characters as signs
abbrev letters : List ℕ → List Sign
letters text = map (λ c. Letter c) text

reads_letters : (number : List ℕ → Option ℕ) (text : List ℕ) → All IsOrdinary text → Reads number text (letters text) []
reads_letters number [] all = nothing []
reads_letters number (c ∷ cs) all =
    let first = all_head IsOrdinary c cs all in
    one_more (Letter c) (letters cs) (c ∷ cs) cs [] (refl, (first.0, λ slash. absurd (first.1 slash)))
    (reads_letters number cs (all_tail IsOrdinary c cs all))

place_of_letters : (place : Place) (text : List ℕ) → place_after_signs place (letters text) ≡ place_after place text
place_of_letters place [] = refl
place_of_letters place (c ∷ cs) = place_of_letters (place_past place c) cs

-- they are joined to one piece
one_piece : (place : Place) (c : ℕ) (text : List ℕ) → pieces_of place (letters (c ∷ text)) ≡ Plain (plain_from place (c ∷ text)) ∷ []
one_piece place c [] = ap (λ (bytes : List ℕ). Plain (record {
  text = bytes;
  places = replicate (length (encode_utf8 c)) place ++ place_past place c ∷ [];
}) ∷ []) (sym (append-nil (encode_utf8 c)))
one_piece place c (d ∷ ds) = ap (with_character c place (place_past place c)) (one_piece (place_past place c) d ds)

pub one_plain : (number : List ℕ → Option ℕ) (text : List ℕ) → text ≢ [] → All IsOrdinary text
    → HasPieces number text (record { pieces = Plain (plain_from first_place text) ∷ []; end = place_after first_place text })
one_plain number [] some all = absurd (some refl)
one_plain number (c ∷ cs) some all = record {
  signs = letters (c ∷ cs);
  read = reads_letters number (c ∷ cs) all;
  are = sym (one_piece first_place c cs);
  ends = sym (place_of_letters first_place (c ∷ cs));
}
