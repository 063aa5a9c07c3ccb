-- What the code settles, and when a set of configurations settles it.
use Rattle.std.specs.Prelude.{◌≡◌, ◌⊎◌, ℕ}
use Rattle.g4_lookahead.specs.EndOfList.{GoesOnFull}
use Rattle.g4_net.specs.Configurations.{Config}
use Rattle.g4_net.specs.Lookahead.{IsEmpty, IsOnly, Alike, IsLeast}
use Rattle.g4_net.specs.Prediction.{Choice, chosen, no_viable}
use Rattle.g4_full.specs.declared.full.Settled.{Settled}
use Rattle.g4_full.specs.declared.full.Settled.TheVariants as settleds
use Rattle.g4_full.specs.declared.shown.Shown.{Shown}
use Rattle.g4_full.specs.declared.shown.Shown.TheVariants.{Nothing, Chosen, Open}

-- what is chosen
abbrev pub choice_of : Settled → Choice
choice_of (settleds.Chosen i) = chosen i
choice_of (settleds.NoViable k) = no_viable k

-- full stacks end with this at the set after symbol k
abbrev pub SettlesWith : (Config → Type 0) → ℕ → Settled → Type 0
SettlesWith D k (settleds.Chosen i) = IsOnly D i ⊎ (Alike D × IsLeast D i)
SettlesWith D k (settleds.NoViable j) = (j ≡ k) × IsEmpty D

-- the set shows this
abbrev pub Shows : (Config → Type 0) → Shown → Type 0
Shows D Nothing = IsEmpty D
Shows D (Chosen i) = IsOnly D i ⊎ (Alike D × IsLeast D i)
Shows D (Open i) = GoesOnFull D × IsLeast D i
