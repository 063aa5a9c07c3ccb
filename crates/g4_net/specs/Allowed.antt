-- Which alternatives of a decision may be taken.
use Rattle.std.specs.Prelude.{ℕ, Contains}
use Rattle.g4_net.specs.declared.allowed.Allowed.{Allowed}
use Rattle.g4_net.specs.declared.allowed.Allowed.TheVariants.{Every, Listed}

-- the alternative may be taken
abbrev pub Allows : Allowed → ℕ → Type 0
Allows Every i = Unit {0}
Allows (Listed list) i = Contains list i
