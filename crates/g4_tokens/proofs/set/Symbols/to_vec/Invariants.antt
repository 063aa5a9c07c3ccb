use Rattle.std.proofs.Common.{◌≡◌, ◌++◌, drop}
use Rattle.g4_tokens.specs.Members.{members}
use Rattle.g4_tokens.proofs.set.Symbols.to_vec.Given as goal

abbrev pub invariant-loop-range : goal.invariant-loop-range
invariant-loop-range l = l.all.items ++ members (drop l.range-index l.range-items) ≡ l.self
