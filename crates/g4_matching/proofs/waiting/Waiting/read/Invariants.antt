use Rattle.std.proofs.Common.{◌≡◌, map, reverse}
use Rattle.g4_ordered.specs.Lists.{ReadAll}
use Rattle.g4_matching.specs.Entries.{AreKnown, configs_of, stacked}
use Rattle.g4_matching.proofs.waiting.Waiting.read.Given as goal

abbrev pub invariant-loop-entry : goal.invariant-loop-entry
invariant-loop-entry l =
    (l.self.returns ≡ l.fn.self.returns) × AreKnown l.fn.self.returns l.self.entries.items
    × ReadAll l.net l.character (configs_of l.fn.self.returns (reverse (map (λ y. y.now) l.yielded)))
    (stacked l.fn.self.returns l.self.entries.items)
