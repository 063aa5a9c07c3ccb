use Rattle.std.proofs.Common.{◌≡◌, drop}
use Rattle.g4_lexer.specs.Commands.{after_commands}
use Rattle.g4_lexer.proofs.effects.Effects.carry_out_all.Given as goal

abbrev pub invariant-loop-command : goal.invariant-loop-command
invariant-loop-command l = after_commands l.commands l.fn.self ≡ after_commands (drop l.command-index l.commands) l.self
