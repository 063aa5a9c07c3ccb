-- What taking a token answers. This serves only contracts of the cursor.
use Rattle.std.specs.Prelude.{◌≡◌, ◌∷◌}
use Rattle.g4_syntax.specs.Notation.{Spelled, Terminal, one}
use Rattle.g4_syntax.specs.Trees.{Tree}
use Rattle.g4_cursor.specs.Progress.{Progress, reading}
use Rattle.g4_cursor.specs.Texts.{token_of}
use Rattle.g4_cursor.specs.declared.cursor.Taken.{Taken}

-- the token is the one that was taken
pub record IsToken (taken : Taken) (token : Spelled) : Type 0 where
  pub place : taken.place ≡ token.place
  pub text : taken.text.now ≡ token.bytes

-- the leaf's token was taken
abbrev pub IsTaken : {t : Terminal} → Taken → Tree (one t) → Type 0
IsTaken taken tree = IsToken taken (token_of tree)

-- the next token was taken, if there was one
abbrev pub Advances : Progress → Taken → Progress → Type 0
Advances (reading (token ∷ rest)) taken new = IsToken taken token × (new ≡ reading rest)
Advances _ taken new = Unit {0}
