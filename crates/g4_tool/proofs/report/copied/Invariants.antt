use Rattle.std.proofs.Common.{◌≡◌, take}
use Rattle.g4_tool.proofs.report.copied.Given as goal

abbrev pub invariant-loop-name : goal.invariant-loop-name
invariant-loop-name l = l.made.items ≡ take l.name-index l.names
