use Rattle.std.proofs.Common.{◌≡◌, take}
use Rattle.std.specs.List.{filter_map}
use Rattle.g4_vocab.specs.Shown.{entry_name}
use Rattle.g4_vocab.proofs.entries.names_of.Given as goal

abbrev pub invariant-loop-entry : goal.invariant-loop-entry
invariant-loop-entry l = l.names.items ≡ filter_map entry_name (take l.entry-index l.entries)
