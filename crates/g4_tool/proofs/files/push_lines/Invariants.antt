use Rattle.std.proofs.Common.{◌≡◌, ◌++◌}
use Rattle.g4_tool.proofs.files.push_lines.Given as goal

abbrev pub invariant-loop-line : goal.invariant-loop-line
invariant-loop-line l = l.lines.items ≡ l.initial.lines.items ++ l.yielded
