use Rattle.std.proofs.Common.{◌≡◌, ◌++◌}
use Rattle.g4_netlist.specs.Listing.{lines_of}
use Rattle.g4_netlist.specs.Searching.{marked}
use Rattle.g4_netlist.proofs.listing.push_marked.Given as goal

abbrev pub invariant-loop-number : goal.invariant-loop-number
invariant-loop-number l = l.out.items ≡ l.initial.out.items ++ lines_of l.names l.shown l.net (marked l.found l.number)
