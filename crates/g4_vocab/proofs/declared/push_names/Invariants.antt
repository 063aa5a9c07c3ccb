use Rattle.std.proofs.Common.{◌≡◌, ◌++◌, map, take}
use Rattle.g4_vocab.specs.Numbering.{name_token}
use Rattle.g4_vocab.specs.Tables.{reference_of}
use Rattle.g4_vocab.proofs.declared.push_names.Given as goal

abbrev pub invariant-loop-name : goal.invariant-loop-name
invariant-loop-name l = map reference_of l.found.items
    ≡ map reference_of l.initial.found.items ++ map name_token (take l.name-index l.names)
