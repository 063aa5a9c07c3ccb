use Rattle.g4_tokens.proofs.Without.{IsLeft}
use Rattle.g4_tokens.proofs.set.Symbols.up_to_without.Given as goal

abbrev pub invariant-loop-symbol : goal.invariant-loop-symbol
invariant-loop-symbol l = IsLeft l.left_out l.ranges.items l.first l.symbol-counter
