use Rattle.std.proofs.Common.{◌≡◌, ◌++◌, map, reverse, length}
use Rattle.g4_fetch.specs.Tasks.{fetches_of}
use Rattle.g4_merge.specs.Importing.{imported_by}
use Rattle.g4_fetch.proofs.task.push_imports.Given as goal

abbrev pub invariant-loop-name : goal.invariant-loop-name
invariant-loop-name l = l.tasks.items ++ reverse (fetches_of l.importer (map (λ n. n.now) l.names.items))
    ≡ l.initial.tasks.items ++ reverse (fetches_of l.importer (imported_by l.source))

abbrev pub decreases-loop-name : goal.decreases-loop-name
decreases-loop-name l = length l.names.items
