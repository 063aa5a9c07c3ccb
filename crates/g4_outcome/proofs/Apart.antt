-- Faults for which memory was not refused.
use Rattle.std.proofs.Common.{◌≡◌, ◌≢◌, true, false, ap}
use Rattle.g4_lexer.specs.declared.fault.LexFault.{LexFault}
use Rattle.g4_lexer.specs.declared.fault.LexFault.TheVariants as lexing
use Rattle.g4_parse.specs.declared.parser.ParseFault.{ParseFault}
use Rattle.g4_parse.specs.declared.parser.ParseFault.TheVariants as parsing
use Rattle.g4_outcome.specs.Outcomes.{lexing_refused, parsing_refused}

-- a fault for which memory was not refused
pub lexed_apart : (fault : LexFault) → lexing_refused fault ≡ false → fault ≢ lexing.NoMemory
lexed_apart fault not is = let refused : lexing_refused fault ≡ true = ap lexing_refused is in cc

pub parsed_apart : (fault : ParseFault) → parsing_refused fault ≡ false → fault ≢ parsing.NoMemory
parsed_apart fault not is = let refused : parsing_refused fault ≡ true = ap parsing_refused is in cc
