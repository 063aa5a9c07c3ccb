use Rattle.std.proofs.Common.{◌≡◌, Result, length}
use Rattle.g4_fetch.specs.Closures.{Halted}
use Rattle.g4_fetch.specs.Files.{Files}
use Rattle.g4_fetch.specs.Tasks.{GoesOn}
use Rattle.g4_fetch.specs.declared.closure.WithImports.{WithImports}
use Rattle.g4_fetch.proofs.fetching.Fetching.next_missing.Given as goal

abbrev pub invariant-loop-task : goal.invariant-loop-task
invariant-loop-task l = (l.self.reached.files ≡ l.initial.self.reached.files)
    × ((files : Files) (r : Result WithImports Halted) → GoesOn files l.prefix l.self r → GoesOn files l.prefix l.initial.self r)

abbrev pub decreases-loop-task : goal.decreases-loop-task
decreases-loop-task l = length l.self.tasks.items
