use Rattle.std.proofs.Common.{◌≡◌, ◌++◌, drop}
use Rattle.g4_closure.specs.Steps.{targets_of}
use Rattle.g4_closure.proofs.lookahead.targets.Given as goal

abbrev pub invariant-loop-group : goal.invariant-loop-group
invariant-loop-group l = l.found.items ++ targets_of l.net l.symbol (drop l.group-index l.groups) ≡ targets_of l.net l.symbol l.groups
