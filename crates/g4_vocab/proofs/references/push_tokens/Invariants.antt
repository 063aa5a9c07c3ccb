use Rattle.std.proofs.Common.{◌≡◌, ◌++◌, map, take}
use Rattle.g4_vocab.specs.Tables.{reference_of}
use Rattle.g4_vocab.proofs.references.push_tokens.Given as goal

abbrev pub invariant-loop-token : goal.invariant-loop-token
invariant-loop-token l = map reference_of l.found.items ≡ map reference_of l.initial.found.items ++ take l.token-index l.tokens
