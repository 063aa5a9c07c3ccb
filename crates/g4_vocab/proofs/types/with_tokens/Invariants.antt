use Rattle.std.proofs.Common.{◌≡◌, map, drop}
use Rattle.g4_vocab.specs.Tables.{wanted_of}
use Rattle.g4_vocab.specs.Types.{with_keys}
use Rattle.g4_vocab.proofs.types.with_tokens.Given as goal

abbrev pub invariant-loop-token : goal.invariant-loop-token
invariant-loop-token l = with_keys l.types (map wanted_of (drop l.token-index l.wanted))
    ≡ with_keys l.initial.types (map wanted_of l.wanted)
