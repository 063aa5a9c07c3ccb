use Rattle.std.proofs.Common.{◌≡◌, ◌++◌, map, take}
use Rattle.std.specs.List.{filter_map}
use Rattle.g4_vocab.specs.Numbering.{token_name}
use Rattle.g4_vocab.specs.Tables.{reference_of, wanted_of}
use Rattle.g4_vocab.proofs.wanted.push_names.Given as goal

abbrev pub invariant-loop-token : goal.invariant-loop-token
invariant-loop-token l = map wanted_of l.found.items
    ≡ map wanted_of l.initial.found.items ++ filter_map token_name (map reference_of (take l.token-index l.tokens))
