-- What is left of a decision's alternatives in a set.
use Rattle.std.specs.Prelude.{ℕ, List}
use Rattle.g4_configs.specs.Configs.{Holds}
use Rattle.g4_configs.specs.Groups.{Same}
use Rattle.g4_net.specs.Configurations.{Config, IsRow, IsWithin}
use Rattle.g4_net.specs.Lookahead.{IsEmpty, IsOnly}
use Rattle.g4_net.specs.Network.{ParserNetwork}
use Rattle.g4_closure.specs.declared.left.Left.{Left}
use Rattle.g4_closure.specs.declared.left.Left.TheVariants.{Nothing, Only, Several}

-- the set H is the set D, in which several alternatives are left
pub record AreSeveral (net : ParserNetwork) (D H : Config → Type 0) : Type 0 where
  pub members : Same H D
  pub within : (c : Config) → H c → IsWithin net c
  pub row : (row : List Config) × IsRow row H
  pub some : IsEmpty H → ⊥
  pub several : (i : ℕ) → IsOnly H i → ⊥

-- what is left in the set D
abbrev pub IsLeft : ParserNetwork → (Config → Type 0) → Left → Type 0
IsLeft net D Nothing = IsEmpty D
IsLeft net D (Only i) = IsOnly D i
IsLeft net D (Several set) = AreSeveral net D (Holds set)
