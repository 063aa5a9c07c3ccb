use Rattle.std.proofs.Common.{◌≡◌, ℕ, List, Option, rules, subst}
use Rattle.std.specs.Str.{chars}
use Rattle.std.proofs.lemmas.Str.{chars_from_encodes}
use Rattle.g4_names.specs.Places.{first_place as place_named, place_in}
use Rattle.g4_tags.specs.Pieces.{GivesPiecesOf}
use Rattle.g4_tags.proofs.pieces.read_pieces.Goals as goal

pub returns : goal.returns
returns c =
    let is : c.deref.result.now ≡ chars c.args.text.now = search (rules, chars_from_encodes) in
    let same : place_in c.in_ok-places.places ≡ place_named c.args.names.now = λ i name. c.in_ok-places.ensures.places name i in
    subst (λ (q : (List ℕ → Option ℕ) × List ℕ). GivesPiecesOf q.0 q.1 c.read.result) (λ i. (same i, is i)) c.read.ensures
