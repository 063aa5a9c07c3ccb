use Rattle.std.proofs.Common.{◌≡◌}
use Rattle.g4_source.specs.Rules.{lexer_rules}
use Rattle.g4_lexer_rules.proofs.gathering.lexer_rules.Given as goal

abbrev pub invariant-loop-rule : goal.invariant-loop-rule
invariant-loop-rule l = l.found.items ≡ lexer_rules l.yielded
