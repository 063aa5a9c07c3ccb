use Rattle.std.proofs.Common.{◌≡◌, replicate}
use Rattle.g4_lexer_rules.proofs.starting.starts_in_each.Given as goal

abbrev pub invariant-loop : goal.invariant-loop
invariant-loop l = l.all.items ≡ replicate l.counter l.front
