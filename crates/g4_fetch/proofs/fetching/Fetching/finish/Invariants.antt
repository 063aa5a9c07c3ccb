use Rattle.std.proofs.Common.{◌≡◌, ◌≤◌, ◌-◌, ◌^◌, Some, Result, length}
use Rattle.g4_fetch.specs.Closures.{Halted}
use Rattle.g4_fetch.specs.Files.{Files}
use Rattle.g4_fetch.specs.Tasks.{GoesOn}
use Rattle.g4_fetch.specs.declared.closure.WithImports.{WithImports}
use Rattle.g4_fetch.proofs.fetching.Fetching.finish.Given as goal

abbrev pub invariant-loop-fetching : goal.invariant-loop-fetching
invariant-loop-fetching g l = (g.S.Shelf.told l.shelf ≡ g.S.Shelf.told l.initial.shelf)
    × (g.S.Shelf.faults l.shelf ≡ g.S.Shelf.faults l.initial.shelf)
    × (g.S.Shelf.misses l.initial.shelf ≤ g.S.Shelf.misses l.shelf)
    × (length l.fn.self.reached.files ≤ length l.fetching.reached.files)
    × ((files : Files) → g.S.Shelf.told l.initial.shelf ≡ Some files
    → (r : Result WithImports Halted) → GoesOn files l.prefix l.fetching r → GoesOn files l.prefix l.fn.self r)

abbrev pub decreases-loop-fetching : goal.decreases-loop-fetching
decreases-loop-fetching g l = 2 ^ 64 - length l.fetching.reached.files
