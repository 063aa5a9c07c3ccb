use Rattle.std.proofs.Common.{◌≡◌, [], length}
use Rattle.std.specs.List.{All}
use Rattle.g4_horn.proofs.chaining.Chaining.new.Given as goal

abbrev pub invariant-loop : goal.invariant-loop
invariant-loop l = (length l.waiting.items ≡ l.counter) × All (λ waits. waits.items ≡ []) l.waiting.items
