use Rattle.std.proofs.Common.{take}
use Rattle.g4_matching.specs.Entries.{configs_of}
use Rattle.g4_matching.specs.Ends.{TellsEnd}
use Rattle.g4_matching.proofs.listing.Listing.least_end.Given as goal

abbrev pub invariant-loop-entry : goal.invariant-loop-entry
invariant-loop-entry l = TellsEnd l.net (configs_of l.self.expanding.waiting.returns (take l.entry-index l.entry-items)) l.best
