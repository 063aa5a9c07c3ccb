-- Signs that are read one after another, up to an index, and the pieces that they are joined to.
use Rattle.std.proofs.Common.{◌≡◌, ◌<◌, ◌≤◌, ℕ, ◌+◌, ◌-◌, List, [], ◌∷◌, ◌++◌, Option, Some, None, IfSome, length, take, drop, get_or, refl, sym, ◌∙◌, ap, subst, arith, encode_utf8_all}
use Rattle.std.proofs.lemmas.List.{append-nil, drop_all, drop_more, drop-drop, length-drop, take-append-drop}
use Rattle.g4_base.specs.Place.{first_place, place_after}
use Rattle.g4_base.specs.declared.place.Place.{Place}
use Rattle.g4_tags.specs.Found.{sign_found}
use Rattle.g4_tags.specs.Joining.{HasJoined, joined, with_begun}
use Rattle.g4_tags.specs.Pieces.{HasPieces, pieces_of, place_after_signs, with_sign}
use Rattle.g4_tags.specs.Signs.{BeginsWithNoTag, IsSign, Reads, StopsAt, nothing, written}
use Rattle.g4_tags.specs.declared.joining.BegunText.{BegunText}
use Rattle.g4_tags.specs.declared.joining.Joining.{Joining}
use Rattle.g4_tags.specs.declared.pieces.Piece.{Piece}
use Rattle.g4_tags.specs.declared.pieces.Pieced.{Pieced}
use Rattle.g4_tags.specs.declared.sign.FoundSign.{FoundSign}
use Rattle.g4_tags.specs.declared.sign.Sign.{Sign}
use Rattle.g4_tags.proofs.Cuts.{front_is}
use Rattle.g4_tags.proofs.Joined.{after_more, joins_more}
use Rattle.g4_tags.proofs.OneReading.{reads_more}
use Rattle.g4_tags.proofs.Signed.{FoundHere, no_tag, sign_sound}

-- The text up to this index is read as signs, and these are joined.
pub record HasRead (number : List ℕ → Option ℕ) (text : List ℕ) (at : ℕ) (joining : Joining) : Type 0 where
  pub signs : List Sign
  pub read : Reads number text signs (drop at text)
  pub pieces : HasJoined first_place signs joining
  pub place : joining.place ≡ place_after_signs first_place signs
  pub within : at ≤ length text

-- nothing is read yet
pub at_start : (number : List ℕ → Option ℕ) (text : List ℕ) (joining : Joining) → joining.pieces.items ≡ [] → joining.begun ≡ None
    → joining.place ≡ first_place → HasRead number text 0 joining
at_start number text joining none new place = record {
  signs = [];
  read = nothing text;
  pieces = λ signs. ap (λ (p : Place). pieces_of p signs) (sym place)
      ∙ sym (ap (λ (q : List Piece × Option BegunText). q.0 ++ with_begun q.1 joining.place (pieces_of joining.place signs)) (λ i.
      (none i, new i)));
  place = place;
  within = omega arith;
}

-- all is read
pub at_end : (number : List ℕ → Option ℕ) (text : List ℕ) (at : ℕ) (joining : Joining) (pieced : Pieced) → length text ≤ at
    → HasRead number text at joining → pieced.pieces ≡ joined joining [] → pieced.end ≡ joining.place → HasPieces number text pieced
at_end number text at joining pieced done h pieces end = record {
  signs = h.signs;
  read = subst (Reads number text h.signs) (drop_all at text done) h.read;
  are = pieces ∙ sym (h.pieces []) ∙ ap (pieces_of first_place) (append-nil h.signs);
  ends = end ∙ h.place;
}

module _ (number : List ℕ → Option ℕ) (text : List ℕ) (at : ℕ) (within : at < length text) (first : ℕ) (after : List ℕ)
    (first_is : first ≡ get_or text at 0) (after_is : after ≡ drop (at + 1) text) where
  -- what is left begins with the character
  pub here : first ∷ after ≡ drop at text
  here = ap (λ c. c ∷ after) first_is ∙ ap (λ r. get_or text at 0 ∷ r) after_is ∙ sym (drop_more text at 0 within)

  -- A sign is found there.
  pub record SignHere (f : FoundSign) : Type 0 where
    pub is : IsSign number f.sign (drop at text) (drop (at + f.width) text)
    pub some : 1 ≤ f.width
    pub fits : at + f.width ≤ length text
    pub part : take f.width (drop at text) ≡ written f.sign

  pub sign_here : (f : FoundSign) → sign_found number first after ≡ Some f → SignHere f
  sign_here f found =
      let s : FoundHere number first after f = sign_sound number first after f found in
      let left : drop f.width (first ∷ after) ≡ drop (at + f.width) text = ap (drop f.width) here ∙ drop-drop f.width at text in
      let width = s.within in
      let long : length (first ∷ after) ≡ length text - at = ap length here ∙ length-drop at text in
      record {
        is = subst (λ (q : List ℕ × List ℕ). IsSign number f.sign q.0 q.1) (λ i. (here i, left i)) s.is;
        some = s.some;
        fits = omega (arith, width, long, within);
        part = ap (take f.width) (sym here) ∙ front_is (first ∷ after) (written f.sign) f.width s.is.0 s.within;
      }

  -- and it is joined
  pub one_more_sign : (f : FoundSign) (old new : Joining) (next : Place) → sign_found number first after ≡ Some f
      → HasRead number text at old
      → new.place ≡ next → next ≡ place_after old.place (take f.width (drop at text))
      → ((pieces : List Piece) → joined new pieces ≡ joined old (with_sign f.sign old.place next pieces))
      → HasRead number text (at + f.width) new
  one_more_sign f old new next found h same place added =
      let s = sign_here f found in
      let place_is : new.place ≡ place_after old.place (written f.sign) = same ∙ place ∙ ap (place_after old.place) s.part in
      record {
        signs = h.signs ++ f.sign ∷ [];
        read = reads_more number text (drop at text) (drop (at + f.width) text) h.signs f.sign h.read s.is;
        pieces = joins_more first_place h.signs f.sign old new h.pieces place_is
            (λ pieces. added pieces ∙ ap (λ (p : Place). joined old (with_sign f.sign old.place p pieces)) (sym same));
        place = place_is ∙ ap (λ (p : Place). place_after p (written f.sign)) h.place ∙ sym (after_more first_place h.signs (f.sign ∷ []));
        within = s.fits;
      }

  -- none is found there
  pub stops_here : (joining : Joining) (bytes : ℕ) → sign_found number first after ≡ None → HasRead number text at joining
      → bytes ≡ length (encode_utf8_all (take at text)) → StopsAt number text bytes
  stops_here joining bytes none h bytes_is =
      let stuck = no_tag number first after none in
      let opens : drop at text ≡ 60 ∷ after = sym here ∙ ap (λ c. c ∷ after) stuck.0 in
      record {
        signs = h.signs;
        front = take at text;
        after = after;
        cut = sym (take-append-drop at text) ∙ ap (λ r. take at text ++ r) opens;
        read = subst (Reads number text h.signs) opens h.read;
        no_tag = subst (λ (c : ℕ). BeginsWithNoTag number (c ∷ after)) stuck.0 stuck.1;
        at_byte = bytes_is;
      }

module _ (number : List ℕ → Option ℕ) (text : List ℕ) (at : ℕ) (within : at < length text) where
  -- a sign that is found there ends within the text
  pub fits_here : (o : Option FoundSign) → o ≡ sign_found number (get_or text at 0) (drop (at + 1) text)
      → IfSome o (λ f. at + f.width ≤ length text)
  fits_here None is = tt
  fits_here (Some f) is = (sign_here number text at within (get_or text at 0) (drop (at + 1) text) refl refl f (sym is)).fits

  -- and is not empty
  pub moves_here : (o : Option FoundSign) → o ≡ sign_found number (get_or text at 0) (drop (at + 1) text) → IfSome o (λ f. 1 ≤ f.width)
  moves_here None is = tt
  moves_here (Some f) is = (sign_here number text at within (get_or text at 0) (drop (at + 1) text) refl refl f (sym is)).some
