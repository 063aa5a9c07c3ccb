use Rattle.std.proofs.Common.{◌≡◌, map}
use Rattle.g4_lexer_rules.specs.Rules.{rule_of_literal}
use Rattle.g4_lexer_rules.proofs.literals.rules_of_literals.Given as goal

abbrev pub invariant-loop-token : goal.invariant-loop-token
invariant-loop-token l = l.rules.items ≡ map rule_of_literal l.yielded
