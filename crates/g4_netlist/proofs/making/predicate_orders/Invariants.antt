use Rattle.std.proofs.Common.{◌≡◌}
use Rattle.g4_netlist.specs.Making.{predicate_orders_below}
use Rattle.g4_netlist.proofs.making.predicate_orders.Given as goal

abbrev pub invariant-loop-number : goal.invariant-loop-number
invariant-loop-number l = l.orders.items ≡ predicate_orders_below l.net l.number
