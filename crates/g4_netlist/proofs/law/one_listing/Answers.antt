use Rattle.g4_netlist.proofs.OneListing.{one_listing}
use Rattle.g4_netlist.proofs.law.one_listing.Goals as goal

pub returns : goal.returns
returns c = one_listing
