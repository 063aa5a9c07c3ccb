-- The characters of bytes.
use Rattle.std.specs.Prelude.{◌≡◌, ℕ, List, Result, Ok, Err}
use Rattle.std.specs.Str.{IsUtf8, IsValidUpTo, chars}
use Rattle.g4_lexer.specs.declared.decode.DecodeError.{DecodeError}
use Rattle.g4_lexer.specs.declared.decode.DecodeError.TheVariants.{NotUtf8, NoMemory}

-- the characters are those of the bytes in UTF-8
pub record AreCharacters (bytes text : List ℕ) : Type 0 where
  pub utf8 : IsUtf8 bytes
  pub same : text ≡ chars bytes

-- what a fault says of the bytes
abbrev pub IsDecodeFault : List ℕ → DecodeError → Type 0
IsDecodeFault bytes (NotUtf8 at) = IsValidUpTo bytes at
IsDecodeFault bytes NoMemory = Unit {0}

-- the call answers with the characters of the bytes, or with how many of them are text, unless memory runs out
abbrev pub IsDecoding : {X : Type 0} → (X → List ℕ) → List ℕ → Result X DecodeError → Type 0
IsDecoding view bytes (Ok x) = AreCharacters bytes (view x)
IsDecoding view bytes (Err e) = IsDecodeFault bytes e
