use Rattle.std.proofs.Common.{◌≡◌, ℕ, ◌<◌, ◌≤◌, Some}
use Rattle.std.specs.List.{slice_get}
use Rattle.g4_horn.specs.Chaining.{Says}
use Rattle.g4_horn.proofs.chaining.Chaining.first_open.Given as goal

abbrev pub invariant-loop-index : goal.invariant-loop-index
invariant-loop-index l = (k : ℕ) → l.from ≤ k → k < l.index → (need : ℕ) → slice_get l.needs k ≡ Some need → Says l.self.follows.items need
