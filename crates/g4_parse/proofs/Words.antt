-- The word of a token list.
use Rattle.std.proofs.Common.{◌≡◌, ◌<◌, ◌∷◌, ℕ, suc, List, length, get_or, drop, ◌∙◌, ap, arith, drop-cons}
use Rattle.std.specs.Prelude.{Some, slice_get}
use Rattle.std.proofs.lemmas.List.{get_or-map}
use Rattle.std.proofs.Math.ListN.{length-map}
use Rattle.std.proofs.lemmas.Option.{slice_get-get_or}
use Rattle.g4_tokens.specs.declared.token.Token.{Token}
use Rattle.g4_tokens.specs.TokenList.{word_of}

-- it is as long as the list
pub length_word : (tokens : List Token) → length (word_of tokens) ≡ length tokens
length_word tokens = length-map tokens (λ (t : Token). t.symbol)

-- its symbol at a place
pub symbol_at : (tokens : List Token) (i : ℕ) (d : Token) → i < length tokens → get_or (word_of tokens) i 0 ≡ (get_or tokens i d).symbol
symbol_at tokens i d within = get_or-map (λ (t : Token). t.symbol) tokens i d 0 within

-- what remains at a place begins with that symbol
pub word_from : (tokens : List Token) (i : ℕ) (d : Token) → i < length tokens
    → drop i (word_of tokens) ≡ (get_or tokens i d).symbol ∷ drop (suc i) (word_of tokens)
word_from tokens i d within =
    let enough : i < length (word_of tokens) = omega (arith, length_word tokens) in
    drop-cons (word_of tokens) i 0 enough ∙ ap (λ (a : ℕ). a ∷ drop (suc i) (word_of tokens)) (symbol_at tokens i d within)

-- the symbol at a place of the word
pub word_get : (tokens : List Token) (i : ℕ) (d : Token) → i < length tokens
    → slice_get (word_of tokens) i ≡ Some (get_or tokens i d).symbol
word_get tokens i d within =
    let enough : i < length (word_of tokens) = omega (arith, length_word tokens) in
    slice_get-get_or (word_of tokens) i 0 enough ∙ ap (λ (a : ℕ). Some a) (symbol_at tokens i d within)
