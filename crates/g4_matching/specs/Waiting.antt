-- Entries that wait.
use Rattle.std.specs.Prelude.{◌≡◌, List, ◌++◌}
use Rattle.g4_ordered.specs.Configurations.{LexerConfig}
use Rattle.g4_matching.specs.declared.waiting.Waiting.{Waiting}
use Rattle.g4_matching.specs.Returns.{Grows}
use Rattle.g4_matching.specs.Entries.{AreKnown, stacked}

-- these configurations are put on top, the first of them on top
pub record Adds (old new : Waiting) (more : List LexerConfig) : Type 0 where
  pub grows : Grows old.returns new.returns
  pub known : AreKnown new.returns new.entries.items
  pub on_top : stacked new.returns new.entries.items ≡ more ++ stacked old.returns old.entries.items
