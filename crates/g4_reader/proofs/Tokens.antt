-- The tokens of a text from an index on, with their bytes.
use Rattle.std.proofs.Common.{◌≡◌, ℕ, zero, suc, ◌+◌, List, [], ◌∷◌, ◌++◌, Some, None, slice_get, refl, sym, ◌∙◌, ap, take, drop, map}
use Rattle.std.proofs.lemmas.List.{drop_more, map-append, take-append-drop}
use Rattle.std.proofs.lemmas.Option.{slice_get_within, get_or_from_slice_get}
use Rattle.g4_grammar_tokens.specs.declared.token.Token.{Token}
use Rattle.g4_cursor.specs.Texts.{from}
use Rattle.g4_cursor.specs.Texts.{characters_of, spelled, spelled_token}
use Rattle.g4_reader.specs.Reading.{fault_at}

-- the token at an index is the first of those from there on
pub from_token : (text : List ℕ) (tokens : List Token) (at : ℕ) (token : Token) → slice_get tokens at ≡ Some token
    → from text tokens at ≡ spelled_token text token ∷ from text tokens (at + 1)
from_token text tokens at token is =
    ap (map (spelled_token text)) (drop_more tokens at token (slice_get_within tokens at token is)
    ∙ ap (λ (t : Token). t ∷ drop (at + 1) tokens) (get_or_from_slice_get tokens at token token is))

-- after all tokens there are none
pub from_after : (text : List ℕ) (tokens : List Token) (at : ℕ) → slice_get tokens at ≡ None → from text tokens at ≡ []
from_after text [] zero is = refl
from_after text [] (suc at) is = refl
from_after text (t ∷ ts) zero is = absurd (cc)
from_after text (t ∷ ts) (suc at) is = from_after text ts at is

-- the tokens are those before the index and those from there on
pub cut_at : (text : List ℕ) (tokens : List Token) (at : ℕ) → spelled text tokens ≡ spelled text (take at tokens) ++ from text tokens at
cut_at text tokens at = ap (spelled text) (sym (take-append-drop at tokens))
    ∙ map-append (spelled_token text) (take at tokens) (drop at tokens)

-- the fault at a token
pub fault_here : (text : List ℕ) (tokens : List Token) (at : ℕ) (token : Token) → slice_get tokens at ≡ Some token
    → fault_at text (from text tokens at) ≡ record { place = token.place; characters = characters_of text token }
fault_here text tokens at token is = ap (fault_at text) (from_token text tokens at token is)

-- the fault after all tokens
pub fault_after : (text : List ℕ) (tokens : List Token) (at : ℕ) → slice_get tokens at ≡ None
    → fault_at text (from text tokens at) ≡ fault_at text []
fault_after text tokens at is = ap (fault_at text) (from_after text tokens at is)
