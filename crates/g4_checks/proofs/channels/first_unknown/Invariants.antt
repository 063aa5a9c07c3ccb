use Rattle.g4_checks.specs.Commands.{IsUnknownChannel}
use Rattle.g4_checks.specs.Names.{is_one_of}
use Rattle.g4_source.proofs.Firsts.{ArePassed}
use Rattle.g4_checks.proofs.channels.first_unknown.Given as goal

abbrev pub invariant-loop-command : goal.invariant-loop-command
invariant-loop-command l = ArePassed (IsUnknownChannel (is_one_of l.channels)) (λ c. c.now) l.commands l.command-index
