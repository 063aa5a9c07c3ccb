-- How positions move on.
use Rattle.std.proofs.Common.{◌≡◌, ℕ, zero, suc, ◌+◌, ◌*◌, ◌≤◌, List, [], ◌∷◌, ◌++◌, length, take, drop, refl, sym, ap, ◌∙◌, arith}
use Rattle.std.specs.Str.{encode_utf8_all}
use Rattle.std.proofs.lemmas.List.{length-take-le}
use Rattle.std.proofs.Math.Seq.{take-add}
use Rattle.g4_base.specs.declared.place.Place.{Place}
use Rattle.g4_base.specs.Place.{first_place, place_past, place_after}
use Rattle.g4_lexer.specs.declared.position.Position.{Position}
use Rattle.g4_lexer.specs.Positions.{first_position, position_after}
use Rattle.g4_lexer.proofs.Encoded.{length-encoded-le, length-encoded-append}

-- the place after two pieces end to end
pub place_after-append : (p : Place) (u v : List ℕ) → place_after p (u ++ v) ≡ place_after (place_after p u) v
place_after-append p [] v = refl
place_after-append p (c ∷ u) v = place_after-append (place_past p c) u v

-- the position after two pieces end to end
pub position_after-append : (p : Position) (u v : List ℕ) → position_after p (u ++ v) ≡ position_after (position_after p u) v
position_after-append p u v =
    let bytes : p.offset + length (encode_utf8_all (u ++ v)) ≡ (p.offset + length (encode_utf8_all u)) + length (encode_utf8_all v) =
    omega (arith, length-encoded-append u v) in
    ap (λ n. record { offset = n; place = place_after p.place (u ++ v) }) bytes
    ∙ ap (λ (q : Place). record { offset = (p.offset + length (encode_utf8_all u)) + length (encode_utf8_all v); place = q })
    (place_after-append p.place u v)

line_past : (p : Place) (c : ℕ) → (place_past p c).line ≤ p.line + 1
line_past p c = grind arith

column_past : (p : Place) (c : ℕ) → (place_past p c).column ≤ p.column + 1
column_past p c = grind arith

-- each character moves the line by at most one
pub line_after : (p : Place) (w : List ℕ) → (place_after p w).line ≤ p.line + length w
line_after p [] = omega arith
line_after p (c ∷ w) = omega (arith, line_past p c, line_after (place_past p c) w)

-- each character moves the column by at most one
pub column_after : (p : Place) (w : List ℕ) → (place_after p w).column ≤ p.column + length w
column_after p [] = omega arith
column_after p (c ∷ w) = omega (arith, column_past p c, column_after (place_past p c) w)

-- a front part of n items has at most n
pub take_short : (n : ℕ) (xs : List ℕ) → length (take n xs) ≤ n
take_short zero xs = omega arith
take_short (suc n) [] = omega arith
take_short (suc n) (x ∷ xs) = omega (arith, take_short n xs)

module _ (text : List ℕ) (start : ℕ) (at : Position) (within : start ≤ length text)
    (is : at ≡ position_after first_position (take start text)) where
  -- the lines, columns and bytes before a position are bounded by its characters
  pub line_at : at.place.line ≤ 1 + start
  line_at = omega (
    arith,
    ap (λ (p : Position). p.place.line) is,
    line_after first_place (take start text),
    length-take-le start text within,
  )

  pub column_at : at.place.column ≤ start
  column_at = omega (
    arith,
    ap (λ (p : Position). p.place.column) is,
    column_after first_place (take start text),
    length-take-le start text within,
  )

  pub offset_at : at.offset ≤ 4 * start
  offset_at = omega (arith, ap (λ (p : Position). p.offset) is, length-encoded-le (take start text), length-take-le start text within)

  -- the position after n more characters
  pub position_behind : (n : ℕ) → position_after at (take n (drop start text)) ≡ position_after first_position (take (start + n) text)
  position_behind n =
      ap (λ (p : Position). position_after p (take n (drop start text))) is
      ∙ sym (position_after-append first_position (take start text) (take n (drop start text)))
      ∙ ap (λ w. position_after first_position w) (sym (take-add start n text))
