use Rattle.g4_checks.specs.Commands.{IsUnknownCommand}
use Rattle.g4_source.proofs.Firsts.{ArePassed}
use Rattle.g4_checks.proofs.commands.first_unknown.Given as goal

abbrev pub invariant-loop-command : goal.invariant-loop-command
invariant-loop-command l = ArePassed IsUnknownCommand (λ c. c.now) l.commands l.command-index
