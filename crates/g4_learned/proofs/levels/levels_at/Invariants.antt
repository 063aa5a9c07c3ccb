use Rattle.std.proofs.Common.{◌≡◌, ◌∷◌, take}
use Rattle.g4_learned.specs.Levels.{next_levels}
use Rattle.g4_learned.proofs.levels.levels_at.Given as goal

abbrev pub invariant-loop-target : goal.invariant-loop-target
invariant-loop-target l = l.levels.items ≡ 0 ∷ next_levels l.net (take l.target-index l.targets)
