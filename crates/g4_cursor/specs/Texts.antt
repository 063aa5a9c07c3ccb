-- The tokens of a text with their bytes, and what single tokens say.
use Rattle.std.specs.Prelude.{ℕ, ◌-◌, List, [], ◌∷◌, Bool, true, false, take, drop, map}
use Rattle.std.specs.Str.{chars}
use Rattle.g4_base.specs.declared.place.Place.{Place}
use Rattle.g4_base.specs.Place.{first_place}
use Rattle.g4_grammar_tokens.specs.Spelling.{literal_spelling}
use Rattle.g4_grammar_tokens.specs.declared.token.Token.{Token}
use Rattle.g4_source.specs.declared.atom.Literal.{Literal}
use Rattle.g4_source.specs.declared.name.Name.{Name}
use Rattle.g4_syntax.specs.Notation.{Spelled, Terminal, Expression, one, optional}
use Rattle.g4_syntax.specs.Trees.{Tree, leaf, absent, present}

-- the bytes of a token
abbrev pub bytes_of : List ℕ → Token → List ℕ
bytes_of text token = take (token.end - token.start) (drop token.start text)

-- the characters of a token
abbrev pub characters_of : List ℕ → Token → List ℕ
characters_of text token = chars (bytes_of text token)

-- a token of the text, with its bytes
abbrev pub spelled_token : List ℕ → Token → Spelled
spelled_token text token = record { kind = token.kind; place = token.place; bytes = bytes_of text token }

-- the tokens of the text, each with its bytes
abbrev pub spelled : List ℕ → List Token → List Spelled
spelled text tokens = map (spelled_token text) tokens

-- whether what is optional is there
abbrev pub is_present : {x : Expression} → Tree (optional x) → Bool
is_present absent = false
is_present (present a) = true

-- the token of a leaf
abbrev pub token_of : {t : Terminal} → Tree (one t) → Spelled
token_of (leaf token) = token

-- the bytes of a leaf
abbrev pub text_of : {t : Terminal} → Tree (one t) → List ℕ
text_of x = (token_of x).bytes

-- the name that a leaf is
abbrev pub name_of : {t : Terminal} → Tree (one t) → Name
name_of x = record { text = (token_of x).bytes; place = (token_of x).place }

-- the literal that a leaf is: the characters that it stands for, and its text as written
abbrev pub literal_of : {t : Terminal} → Tree (one t) → Literal
literal_of x = record { characters = literal_spelling (chars (token_of x).bytes); written = (token_of x).bytes }

-- the tokens from the index on, each with its bytes
abbrev pub from : List ℕ → List Token → ℕ → List Spelled
from text tokens at = spelled text (drop at tokens)

-- the place of the first of these tokens
abbrev pub place_of : List Spelled → Place
place_of [] = first_place
place_of (token ∷ _) = token.place
