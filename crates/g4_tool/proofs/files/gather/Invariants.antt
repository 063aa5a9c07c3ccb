use Rattle.std.proofs.Common.{◌≤◌, length}
use Rattle.g4_tool.proofs.Gathered.{Gathers}
use Rattle.g4_tool.proofs.files.gather.Given as goal

abbrev pub invariant-loop-report : goal.invariant-loop-report
invariant-loop-report l = (l.parsed.accepted ≤ length l.yielded) × Gathers l.yielded l.parsed
