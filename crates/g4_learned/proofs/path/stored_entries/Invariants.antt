use Rattle.std.proofs.Common.{◌≡◌, map}
use Rattle.g4_predict.specs.Paths.{looked_of}
use Rattle.g4_learned.specs.Stored.{stored_entry}
use Rattle.g4_learned.proofs.path.stored_entries.Given as goal

abbrev pub invariant-loop-entry : goal.invariant-loop-entry
invariant-loop-entry l = l.entries.items ≡ map (stored_entry l.net) (map looked_of l.yielded)
