use Rattle.std.proofs.Common.{◌≡◌, ◌++◌, drop}
use Rattle.g4_merge.specs.Merging.{chosen}
use Rattle.g4_merge.proofs.merging.chosen.Given as goal

abbrev pub invariant-loop-wanted : goal.invariant-loop-wanted
invariant-loop-wanted g l = l.found.items ++ chosen (drop l.wanted-index l.which) l.rest.rest.items ≡ chosen l.which l.fn.items.items
