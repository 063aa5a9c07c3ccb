use Rattle.std.proofs.Common.{◌≡◌, ◌≤◌, All, drop, length, Some}
use Rattle.g4_fetch.specs.Files.{Files}
use Rattle.g4_outcome.specs.Inputs.{IsSmall}
use Rattle.g4_tool.specs.Inputs.{inputs_of}
use Rattle.g4_tool.proofs.Fetched.{with_front}
use Rattle.g4_tool.proofs.inputs.fetch_all.Given as goal

abbrev pub invariant-loop-name : goal.invariant-loop-name
invariant-loop-name g l =
    (g.S.Shelf.told l.shelf ≡ g.S.Shelf.told l.initial.shelf) ×
    (g.S.Shelf.faults l.shelf ≡ g.S.Shelf.faults l.initial.shelf) ×
    (g.S.Shelf.misses l.initial.shelf ≤ g.S.Shelf.misses l.shelf) ×
    (length l.inputs.items ≡ l.name-index) ×
    ((files : Files) → g.S.Shelf.told l.initial.shelf ≡ Some files →
    with_front l.inputs.items (inputs_of files (drop l.name-index l.names)) ≡ inputs_of files l.names) ×
    (All IsSmall l.inputs.items)
