use Rattle.std.proofs.Common.{◌≡◌, ◌++◌, ◌+◌, ◌-◌}
use Rattle.std.specs.List.{range_with_len}
use Rattle.g4_tokens.specs.Members.{range_members}
use Rattle.g4_tokens.proofs.set.push_range.Given as goal

abbrev pub invariant-loop-symbol : goal.invariant-loop-symbol
invariant-loop-symbol l = l.all.items ++ range_with_len l.symbol (l.fn.range.last + 1 - l.symbol)
    ≡ l.fn.all.items ++ range_members l.fn.range
