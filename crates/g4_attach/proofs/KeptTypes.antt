-- The types of a lexer grammar in the whole.
use Rattle.std.proofs.Common.{◌≡◌, ◌≤◌, ℕ, List, Some}
use Rattle.g4_source.specs.declared.source.Source.{Source}
use Rattle.g4_token_file.specs.Keys.{greatest_number, number_of}
use Rattle.g4_token_file.specs.declared.entry.TokenEntry.{TokenEntry}
use Rattle.g4_token_file.specs.declared.entry.TokenKey.{TokenKey}
use Rattle.g4_vocab.specs.Numbering.{types_of, wanted_of}
use Rattle.g4_vocab.proofs.KeptNumbers.{numbers_kept}
use Rattle.g4_vocab.proofs.Keys.{with_keys_grows}
use Rattle.g4_attach.specs.Attaching.{attached_of}

-- they are the same
pub types_same : (table : List TokenEntry) (parser lexer : Source) (key : TokenKey) (number : ℕ)
    → number_of (types_of table lexer) key ≡ Some number
    → number_of (types_of (types_of table lexer) (attached_of parser lexer)) key ≡ Some number
types_same table parser lexer = numbers_kept (types_of table lexer) (attached_of parser lexer)

-- and the greatest is no greater
pub types_grow : (table : List TokenEntry) (parser lexer : Source)
    → greatest_number (types_of table lexer) ≤ greatest_number (types_of (types_of table lexer) (attached_of parser lexer))
types_grow table parser lexer = with_keys_grows (types_of table lexer) (wanted_of (attached_of parser lexer))
