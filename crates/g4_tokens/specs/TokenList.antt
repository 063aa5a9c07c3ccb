-- Token lists and the symbols that prediction sees.
use Rattle.std.specs.Prelude.{◌≡◌, ℕ, List, [], ◌∷◌, ◌++◌, map, take, drop, ◌-◌, Contains}
use Rattle.g4_tokens.specs.Symbols.{end_of_list}
use Rattle.g4_tokens.specs.declared.token.Token.{Token}

-- the symbols of a token list
abbrev pub word_of : List Token → List ℕ
word_of tokens = map (λ t. t.symbol) tokens

-- the bytes of a token, in the bytes of its file
abbrev pub bytes_of : List ℕ → Token → List ℕ
bytes_of bytes token = take (token.end - token.start) (drop token.start bytes)

-- the word ends in END, which is nowhere else in it
abbrev pub EndsInEnd : List ℕ → Type 0
EndsInEnd w = (front : List ℕ) × (w ≡ front ++ end_of_list ∷ []) × (Contains front end_of_list → ⊥)
