use Rattle.std.proofs.Common.{◌≡◌}
use Rattle.std.specs.List.{flat_map}
use Rattle.g4_vocab.proofs.by_type.by_type.Given as goal

abbrev pub invariant-loop-group : goal.invariant-loop-group
invariant-loop-group l = l.tokens.items ≡ flat_map (λ group. group.items) l.yielded
