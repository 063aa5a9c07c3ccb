use Rattle.std.proofs.Common.{◌≡◌, ◌++◌, drop}
use Rattle.g4_netlist.specs.Listing.{spaced}
use Rattle.g4_netlist.proofs.line.push_spaced.Given as goal

abbrev pub invariant-loop-number : goal.invariant-loop-number
invariant-loop-number l = l.out.items ++ spaced (drop l.number-index l.numbers) ≡ l.initial.out.items ++ spaced l.numbers
