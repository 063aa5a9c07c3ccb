use Rattle.std.proofs.Common.{◌≡◌, length}
use Rattle.g4_recursion.specs.Leads.{operators_of, trees_of}
use Rattle.g4_recursion.proofs.LeadsRunning.{AreLeftCalls}
use Rattle.g4_recursion.proofs.calls.left_calls.Given as goal

abbrev pub invariant-loop-number : goal.invariant-loop-number
invariant-loop-number l = (length l.all.items ≡ l.number) × AreLeftCalls (trees_of l.rules) (operators_of l.rules) l.all.items
