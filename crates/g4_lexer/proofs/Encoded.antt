-- How many bytes characters have.
use Rattle.std.proofs.Common.{◌≡◌, ℕ, ◌+◌, ◌*◌, ◌≤◌, ◌<◌, List, [], ◌∷◌, ◌++◌, length, take, drop, sym, ap, ◌∙◌, append-nil, get_or, arith}
use Rattle.std.specs.Str.{encode_utf8_all}
use Rattle.std.specs.Char.{encode_utf8}
use Rattle.std.proofs.lemmas.List.{take_more, take-append-drop, length-append}
use Rattle.std.proofs.lemmas.Str.{encodes-append, length-encode, len_utf8_bounds}

-- a character has at most four bytes
pub length-encoded-le : (w : List ℕ) → length (encode_utf8_all w) ≤ 4 * length w
length-encoded-le [] = omega arith
length-encoded-le (c ∷ w) = omega (
  arith,
  length-append (encode_utf8 c) (encode_utf8_all w),
  length-encode c,
  (len_utf8_bounds c).1,
  length-encoded-le w,
)

-- and one or more
pub length-encoded-ge : (w : List ℕ) → length w ≤ length (encode_utf8_all w)
length-encoded-ge [] = omega arith
length-encoded-ge (c ∷ w) = omega (
  arith,
  length-append (encode_utf8 c) (encode_utf8_all w),
  length-encode c,
  (len_utf8_bounds c).0,
  length-encoded-ge w,
)

-- the bytes of two pieces end to end
pub length-encoded-append : (u v : List ℕ) → length (encode_utf8_all (u ++ v)) ≡ length (encode_utf8_all u) + length (encode_utf8_all v)
length-encoded-append u v = ap length (encodes-append u v) ∙ length-append (encode_utf8_all u) (encode_utf8_all v)

-- one more character
pub length-encoded-more : (w : List ℕ) (i c : ℕ) → i < length w → c ≡ get_or w i c
    → length (encode_utf8_all (take (i + 1) w)) ≡ length (encode_utf8_all (take i w)) + length (encode_utf8 c)
length-encoded-more w i c within is =
    ap (λ u. length (encode_utf8_all u)) (take_more w i c within ∙ ap (λ d. take i w ++ d ∷ []) (sym is))
    ∙ length-encoded-append (take i w) (c ∷ [])
    ∙ ap (λ k. length (encode_utf8_all (take i w)) + k) (ap length (append-nil (encode_utf8 c)))

-- a front part has no more bytes
pub length-encoded-front : (w : List ℕ) (i : ℕ) → length (encode_utf8_all (take i w)) ≤ length (encode_utf8_all w)
length-encoded-front w i = omega (
  arith,
  ap (λ u. length (encode_utf8_all u)) (sym (take-append-drop i w)),
  length-encoded-append (take i w) (drop i w),
)
