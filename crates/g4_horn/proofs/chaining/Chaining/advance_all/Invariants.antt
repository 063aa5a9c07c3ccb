use Rattle.std.proofs.Common.{◌≡◌, ℕ, drop, length}
use Rattle.g4_horn.specs.Chaining.{IsUnderWay, work_left}
use Rattle.g4_horn.proofs.chaining.Chaining.advance_all.Given as goal

abbrev pub invariant-loop-wait : goal.invariant-loop-wait
invariant-loop-wait l = record {
  under_way : (count : ℕ) → IsUnderWay l.clauses count l.waits l.initial.self
      → IsUnderWay l.clauses count (drop l.wait-index l.waits) l.self;
  work : work_left l.self ≡ work_left l.initial.self;
  count : length l.self.follows.items ≡ length l.initial.self.follows.items;
}
