-- Stacks of return states: those of configurations.
use Rattle.std.specs.Prelude.{ℕ, [], ◌∷◌, false}
use Rattle.g4_net.specs.Configurations.{Stack}

-- `$` alone
abbrev pub bottom : Stack
bottom = record { returns = []; wild = false }

-- the stack with a state on top
abbrev pub pushed : ℕ → Stack → Stack
pushed t s = record { returns = t ∷ s.returns; wild = s.wild }
