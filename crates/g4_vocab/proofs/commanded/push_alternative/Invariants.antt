use Rattle.std.proofs.Common.{◌≡◌, ◌++◌, map, take}
use Rattle.std.specs.List.{filter_map}
use Rattle.g4_vocab.specs.Numbering.{commanded_token}
use Rattle.g4_vocab.specs.Tables.{reference_of}
use Rattle.g4_vocab.proofs.commanded.push_alternative.Given as goal

abbrev pub invariant-loop-command : goal.invariant-loop-command
invariant-loop-command l = map reference_of l.found.items
    ≡ map reference_of l.initial.found.items ++ filter_map commanded_token (take l.command-index l.command-items)
