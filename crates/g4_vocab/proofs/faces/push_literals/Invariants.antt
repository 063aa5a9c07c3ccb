use Rattle.std.proofs.Common.{◌≡◌, ◌++◌, map, take}
use Rattle.std.specs.List.{filter_map}
use Rattle.g4_vocab.specs.Shown.{literal_face}
use Rattle.g4_vocab.specs.Tables.{face_of}
use Rattle.g4_vocab.proofs.faces.push_literals.Given as goal

abbrev pub invariant-loop-entry : goal.invariant-loop-entry
invariant-loop-entry l = map face_of l.found.items
    ≡ map face_of l.initial.found.items ++ filter_map literal_face (take l.entry-index l.entries)
