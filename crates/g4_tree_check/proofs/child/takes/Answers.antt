use Rattle.std.proofs.Common.{◌==◌}
use Rattle.std.specs.List.{Contains, list_any}
use Rattle.g4_tree_check.proofs.Outcomes.{same_test}
use Rattle.g4_tree_check.proofs.Members.{has_member}
use Rattle.g4_tree_check.proofs.child.takes.Goals as goal

pub returns-in-Edge : goal.returns-in-Edge
returns-in-Edge c = rw c.in-Symbol.is (rw c.in-Edge.is
    (same_test (Contains c.in-Edge.set c.in-Symbol.symbol) c.contains.result (list_any (λ a. c.in-Symbol.symbol == a) c.in-Edge.set)
    c.contains.ensures (has_member c.in-Edge.set c.in-Symbol.symbol)))
