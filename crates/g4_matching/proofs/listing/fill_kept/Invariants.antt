use Rattle.std.proofs.Common.{take}
use Rattle.g4_ordered.specs.Lists.{Keeps}
use Rattle.g4_matching.specs.Entries.{AreKnown, configs_of}
use Rattle.g4_matching.proofs.listing.fill_kept.Given as goal

abbrev pub invariant-loop-entry : goal.invariant-loop-entry
invariant-loop-entry l = AreKnown l.returns l.list.items
    × Keeps l.net (configs_of l.returns (take l.entry-index l.all)) (configs_of l.returns l.list.items)
