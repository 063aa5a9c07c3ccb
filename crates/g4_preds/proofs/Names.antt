-- The text of a name, character by character.
use Rattle.std.proofs.Common.{◌≡◌, ℕ, ◌+◌, ◌<◌, List, [], ◌∷◌, ◌++◌, take, length, get_or, ap, sym, ◌∙◌, encode_utf8, encode_utf8_all}
use Rattle.std.proofs.lemmas.List.{append-nil, take_more}
use Rattle.std.proofs.lemmas.Str.{encodes-append}

-- one more character
pub one_more : (letter : ℕ) (parts : List ℕ) (i c : ℕ) → i < length parts → c ≡ get_or parts i c
    → encode_utf8_all (letter ∷ take (i + 1) parts) ≡ encode_utf8_all (letter ∷ take i parts) ++ encode_utf8 c
one_more letter parts i c within is =
    let longer : take (i + 1) parts ≡ take i parts ++ c ∷ [] = take_more parts i c within ∙ ap (λ d. take i parts ++ d ∷ []) (sym is) in
    ap (λ cs. encode_utf8_all (letter ∷ cs)) longer ∙ encodes-append (letter ∷ take i parts) (c ∷ [])
    ∙ ap (λ bs. encode_utf8_all (letter ∷ take i parts) ++ bs) (append-nil (encode_utf8 c))

-- one more character of a text
pub one_character : (parts : List ℕ) (i c : ℕ) → i < length parts → c ≡ get_or parts i c
    → encode_utf8_all (take (i + 1) parts) ≡ encode_utf8_all (take i parts) ++ encode_utf8 c
one_character parts i c within is =
    let longer : take (i + 1) parts ≡ take i parts ++ c ∷ [] = take_more parts i c within ∙ ap (λ d. take i parts ++ d ∷ []) (sym is) in
    ap encode_utf8_all longer ∙ encodes-append (take i parts) (c ∷ [])
    ∙ ap (λ bs. encode_utf8_all (take i parts) ++ bs) (append-nil (encode_utf8 c))
