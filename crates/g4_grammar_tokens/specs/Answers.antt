-- What scanning answers.
use Rattle.std.specs.Prelude.{ℕ, List, [], Result, Ok, Err, drop, if◌then◌else◌}
use Rattle.std.specs.Str.{IsUtf8, IsValidUpTo, chars}
use Rattle.g4_grammar_tokens.specs.Characters.{begins}
use Rattle.g4_grammar_tokens.specs.Scanning.{AreTokens, IsFaultyAt, start_at}
use Rattle.g4_grammar_tokens.specs.declared.position.Position.{Position}
use Rattle.g4_grammar_tokens.specs.declared.token.Token.{Token}
use Rattle.g4_grammar_tokens.specs.declared.scanner.ScanFault.{ScanFault}
use Rattle.g4_grammar_tokens.specs.declared.scanner.ScanFault.TheVariants.{NotUtf8, Syntax, NoMemory}

-- the text without a byte order mark before it
abbrev pub unmarked : List ℕ → List ℕ
unmarked text = if begins 65279 text then drop 1 text else text

-- where the text begins: a byte order mark before it takes three bytes and no column
abbrev pub start_of : List ℕ → Position
start_of text = start_at (if begins 65279 text then 3 else 0)

-- what a fault says of the rest of a text at this position
abbrev pub IsFaultOf : Position → List ℕ → ScanFault → Type 0
IsFaultOf start rest (Syntax place index) = IsFaultyAt [] start rest (record { place = place; index = index })
IsFaultOf start rest (NotUtf8 at) = ⊥
IsFaultOf start rest NoMemory = Unit {0}

-- the call answers with the tokens of the rest of a text at this position, or with its fault, unless memory runs out
abbrev pub AnswersRest : Position → List ℕ → Result (List Token) ScanFault → Type 0
AnswersRest start rest (Ok tokens) = AreTokens [] start rest tokens
AnswersRest start rest (Err fault) = IsFaultOf start rest fault

-- the bytes are a text that has these tokens
pub record HasTokens (bytes : List ℕ) (tokens : List Token) : Type 0 where
  pub utf8 : IsUtf8 bytes
  pub tokens_are : AreTokens [] (start_of (chars bytes)) (unmarked (chars bytes)) tokens

-- the bytes are a text whose first faulty piece opens here
pub record HasFault (bytes : List ℕ) (at : Position) : Type 0 where
  pub utf8 : IsUtf8 bytes
  pub opens : IsFaultyAt [] (start_of (chars bytes)) (unmarked (chars bytes)) at

-- what a fault says of the bytes
abbrev pub IsScanFault : List ℕ → ScanFault → Type 0
IsScanFault bytes (NotUtf8 at) = IsValidUpTo bytes at
IsScanFault bytes (Syntax place index) = HasFault bytes (record { place = place; index = index })
IsScanFault bytes NoMemory = Unit {0}

-- the call answers with the tokens of the bytes, or with their fault, unless memory runs out
abbrev pub IsScan : List ℕ → Result (List Token) ScanFault → Type 0
IsScan bytes (Ok tokens) = HasTokens bytes tokens
IsScan bytes (Err fault) = IsScanFault bytes fault
