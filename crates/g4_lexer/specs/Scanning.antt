-- The tokens of the characters of a file, before the file is closed.
use Rattle.std.specs.Prelude.{ℕ, List, Result, Ok, Err}
use Rattle.g4_lexer.specs.declared.fault.LexFault.{LexFault}
use Rattle.g4_lexer.specs.declared.fault.LexFault.TheVariants as faults
use Rattle.g4_lexer.specs.declared.lexer.Lexer.{Lexer}
use Rattle.g4_lexer.specs.declared.scanning.Scanned.{Scanned}
use Rattle.g4_lexer.specs.Lexing.{LexesText, no_token, empty_mode_stack, too_many}

-- what a fault says of the characters, of which this many tokens may be made
abbrev pub IsScanFault : ℕ → Lexer → List ℕ → LexFault → Type 0
IsScanFault room lexer text (faults.NotUtf8 at) = ⊥
IsScanFault room lexer text (faults.NoToken place character) = LexesText lexer room text (Err (no_token place character))
IsScanFault room lexer text (faults.EmptyModeStack place) = LexesText lexer room text (Err (empty_mode_stack place))
IsScanFault room lexer text (faults.Tokens place) = LexesText lexer room text (Err (too_many place))
IsScanFault room lexer text faults.NoMemory = Unit {0}

-- the call answers with the tokens of the characters or their fault, unless memory runs out
abbrev pub IsScan : ℕ → Lexer → List ℕ → Result Scanned LexFault → Type 0
IsScan room lexer text (Ok found) = LexesText lexer room text (Ok found.tokens.items)
IsScan room lexer text (Err fault) = IsScanFault room lexer text fault
