-- Sets that grow while groups of them are followed.
use Rattle.std.specs.Prelude.{◌≡◌, ◌⊎◌, List, [], ◌∷◌, ◌++◌}
use Rattle.g4_stacks.specs.Graph.{Keeps}
use Rattle.g4_net.specs.Configurations.{Config}
use Rattle.g4_net.specs.Leads.{Reaches}
use Rattle.g4_net.specs.Network.{ParserNetwork}
use Rattle.g4_configs.specs.declared.group.Group.{Group}
use Rattle.g4_configs.specs.Configs.{Holds, View}

-- The new set keeps the stacks of the old one, and what it has more is in C.
pub record IsGrown (v : View) (C : Config → Type 0) (v' : View) : Type 0 where
  pub keeps : Keeps v.graph v'.graph
  pub only : (c : Config) → Holds v' c → Holds v c ⊎ C c

-- What is at the group's state leads to the other's, whatever its stack. Both have the same stacks and the same alternative.
pub record IsAfter (net : ParserNetwork) (x y : Group) : Type 0 where
  pub stacks : y.stacks ≡ x.stacks
  pub alternative : y.alternative ≡ x.alternative
  pub reaches : (c d : Config) → c.state ≡ x.state → d.state ≡ y.state → d.alt ≡ c.alt → d.stack ≡ c.stack → Reaches net c d

-- the list has grown by one that is after the group, if at all
abbrev pub HasAfter : ParserNetwork → Group → List Group → List Group → Type 0
HasAfter net x old new = (new ≡ old) ⊎ ((y : Group) × (new ≡ old ++ y ∷ []) × IsAfter net x y)
