use Rattle.std.proofs.Common.{◌≡◌, ◌++◌}
use Rattle.g4_configs.proofs.ordered.entries_of.Given as goal

abbrev pub invariant-loop-key : goal.invariant-loop-key
invariant-loop-key l = l.found.items ++ l.key-iterator ≡ l.nodes.entries
