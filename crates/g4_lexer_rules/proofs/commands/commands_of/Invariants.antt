use Rattle.std.proofs.Common.{◌≡◌, map}
use Rattle.g4_lexer_rules.proofs.commands.commands_of.Given as goal

abbrev pub invariant-loop-rule : goal.invariant-loop-rule
invariant-loop-rule l = l.all.items ≡ map (λ rule. map (λ x. x.commands) rule.alternatives) l.yielded
