use Rattle.std.proofs.Common.{subst, sym}
use Rattle.g4_matching.specs.Entries.{AreKnown}
use Rattle.g4_matching.proofs.listing.Listing.keep.Goals as goal

pub fill_kept-requires : goal.fill_kept-requires
fill_kept-requires c = subst (AreKnown c.args.self.now.expanding.waiting.returns) (sym c.as_slice.ensures) c.requires
