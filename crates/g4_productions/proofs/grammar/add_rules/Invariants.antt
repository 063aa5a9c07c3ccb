use Rattle.std.proofs.Common.{◌≡◌, ◌++◌, map}
use Rattle.g4_productions.specs.Rules.{in_mode}
use Rattle.g4_productions.proofs.grammar.add_rules.Given as goal

abbrev pub invariant-loop-rule : goal.invariant-loop-rule
invariant-loop-rule l = l.rules.items ≡ l.initial.rules.items ++ map (in_mode l.mode) l.yielded
