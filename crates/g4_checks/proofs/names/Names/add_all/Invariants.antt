use Rattle.std.proofs.Common.{take}
use Rattle.g4_checks.specs.Known.{AddsAll}
use Rattle.g4_checks.proofs.names.Names.add_all.Given as goal

abbrev pub invariant-loop-name : goal.invariant-loop-name
invariant-loop-name l = AddsAll l.initial.self (take l.name-index l.more) l.self
