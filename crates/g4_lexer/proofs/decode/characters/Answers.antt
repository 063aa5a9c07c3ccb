use Rattle.std.proofs.Common.{rules}
use Rattle.std.proofs.lemmas.Str.{chars_from_encodes}
use Rattle.g4_lexer.proofs.decode.characters.Goals as goal

pub returns-in_ok-found-in-Ok-clause-decoding : goal.returns-in_ok-found-in-Ok-clause-decoding
returns-in_ok-found-in-Ok-clause-decoding c = record { utf8 = search rules; same = search (rules, chars_from_encodes) }
