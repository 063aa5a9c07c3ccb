-- Signs that are joined to pieces, one after another.
use Rattle.std.proofs.Common.{◌≡◌, List, [], ◌∷◌, ◌++◌, refl, sym, ◌∙◌, ap, append_assoc}
use Rattle.g4_base.specs.Place.{place_after}
use Rattle.g4_base.specs.declared.place.Place.{Place}
use Rattle.g4_tags.specs.Joining.{HasJoined, joined}
use Rattle.g4_tags.specs.Pieces.{pieces_of, place_after_signs, with_sign}
use Rattle.g4_tags.specs.Signs.{written}
use Rattle.g4_tags.specs.declared.joining.Joining.{Joining}
use Rattle.g4_tags.specs.declared.pieces.Piece.{Piece}
use Rattle.g4_tags.specs.declared.sign.Sign.{Sign}

-- the pieces of signs one of which is joined
pub joins_more : (start : Place) (seen : List Sign) (sign : Sign) (old new : Joining) → HasJoined start seen old
    → new.place ≡ place_after old.place (written sign)
    → ((pieces : List Piece) → joined new pieces ≡ joined old (with_sign sign old.place new.place pieces))
    → HasJoined start (seen ++ sign ∷ []) new
joins_more start seen sign old new has place added signs =
    ap (pieces_of start) (append_assoc seen (sign ∷ []) signs) ∙ has (sign ∷ signs)
    ∙ ap (λ (p : Place). joined old (with_sign sign old.place p (pieces_of p signs))) (sym place)
    ∙ sym (added (pieces_of new.place signs))

-- the place after signs
pub after_more : (start : Place) (seen signs : List Sign) → place_after_signs start (seen ++ signs) ≡ place_after_signs
    (place_after_signs start seen) signs
after_more start [] signs = refl
after_more start (sign ∷ seen) signs = after_more (place_after start (written sign)) seen signs
