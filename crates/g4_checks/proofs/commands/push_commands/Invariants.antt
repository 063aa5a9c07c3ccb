use Rattle.std.proofs.Common.{◌≡◌, ◌++◌, map, take}
use Rattle.g4_checks.proofs.commands.push_commands.Given as goal

abbrev pub invariant-loop-command : goal.invariant-loop-command
invariant-loop-command l = map (λ c. c.now) l.found.items ≡ map (λ c. c.now) l.initial.found.items ++ take l.command-index l.commands
