use Rattle.g4_checks.specs.Commands.{IsUnknownMode}
use Rattle.g4_checks.specs.Names.{is_one_of}
use Rattle.g4_source.proofs.Firsts.{ArePassed}
use Rattle.g4_checks.proofs.modes.first_unknown.Given as goal

abbrev pub invariant-loop-command : goal.invariant-loop-command
invariant-loop-command l = ArePassed (IsUnknownMode (is_one_of l.modes)) (λ c. c.now) l.commands l.command-index
