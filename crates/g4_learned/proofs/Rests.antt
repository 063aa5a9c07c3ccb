-- The tokens from a place on.
use Rattle.std.proofs.Common.{◌≡◌, ℕ, ◌+◌, ◌-◌, ◌<◌, ◌≤◌, List, [], ◌∷◌, ◌++◌, take, drop, length, sym, ◌∙◌, ap, subst, arith, Contains, length-append}
use Rattle.std.proofs.lemmas.List.{take_rest, drop-map, drop-append-le, length-map}
use Rattle.std.proofs.lemmas.List.Elements.{Contains-push}
use Rattle.g4_tokens.specs.Symbols.{end_of_list}
use Rattle.g4_tokens.specs.TokenList.{word_of, EndsInEnd}
use Rattle.g4_tokens.specs.declared.token.Token as tokens

-- the tokens from a place on
abbrev pub from_on : ℕ → List tokens.Token → List tokens.Token
from_on from ts = take (length ts - from) (drop from ts)

-- their word
pub word_from : (from : ℕ) (ts : List tokens.Token) → word_of (from_on from ts) ≡ drop from (word_of ts)
word_from from ts = ap (λ (xs : List tokens.Token). word_of xs) (take_rest ts from)
    ∙ sym (drop-map (λ (t : tokens.Token). t.symbol) from ts)

-- END is ahead from each place before the end
pub ahead : (from : ℕ) (w : List ℕ) → EndsInEnd w → from < length w → Contains (drop from w) end_of_list
ahead from w (front, is, once) less =
    let long : length w ≡ length front + 1 = ap length is ∙ length-append front (end_of_list ∷ []) in
    let below : from ≤ length front = omega arith in
    let split : drop from w ≡ drop from front ++ end_of_list ∷ [] =
    ap (drop from) is ∙ drop-append-le from front (end_of_list ∷ []) below in
    subst (λ (v : List ℕ). Contains v end_of_list) (sym split) (Contains-push (drop from front) end_of_list)

-- the same of the tokens
pub ends_ahead : (from : ℕ) (ts : List tokens.Token) → EndsInEnd (word_of ts) → from < length ts
    → Contains (word_of (from_on from ts)) end_of_list
ends_ahead from ts ends less =
    let long : length (word_of ts) ≡ length ts = length-map ts (λ (t : tokens.Token). t.symbol) in
    subst (λ (v : List ℕ). Contains v end_of_list) (sym (word_from from ts)) (ahead from (word_of ts) ends (omega arith))
