-- Tokens as parts of a text. This serves only contracts: what a grammar text is does not rest on it.
use Rattle.std.specs.Prelude.{◌≡◌, ℕ, ◌≤◌, List, Some, slice_get}
use Rattle.std.specs.Str.{IsCharBoundary}
use Rattle.g4_grammar_tokens.specs.declared.token.Token.{Token}

-- the token's bytes are whole characters of the text
pub record IsPart (text : List ℕ) (token : Token) : Type 0 where
  pub ordered : token.start ≤ token.end
  pub begins : IsCharBoundary text token.start
  pub ends : IsCharBoundary text token.end

-- each token's bytes are whole characters of the text
pub data AreParts (text : List ℕ) (tokens : List Token) : Type 0 where
  each_is : ((at : ℕ) (token : Token) → slice_get tokens at ≡ Some token → IsPart text token) → AreParts text tokens
