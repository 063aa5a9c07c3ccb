use Rattle.std.proofs.Common.{◌≡◌, map}
use Rattle.g4_lexer_rules.proofs.commands.of_alternatives.Given as goal

abbrev pub invariant-loop-alternative : goal.invariant-loop-alternative
invariant-loop-alternative l = l.all.items ≡ map (λ x. x.commands) l.yielded
