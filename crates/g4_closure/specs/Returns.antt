-- Groups, and where the ends of their rules lead.
use Rattle.std.specs.Prelude.{◌⊎◌, List}
use Rattle.g4_stacks.specs.Graph.{Content}
use Rattle.g4_net.specs.Configurations.{Config}
use Rattle.g4_net.specs.Network.{ParserNetwork}
use Rattle.g4_configs.specs.declared.group.Group.{Group}
use Rattle.g4_configs.specs.Configs.{IsOfGroup, View}
use Rattle.g4_configs.specs.Groups.{AreKnown, InSome}
use Rattle.g4_closure.specs.Steps.{ReachedFrom}

-- The list has the starts, and nothing that they do not lead to.
pub record AreReached (net : ParserNetwork) (g : List Content) (starts found : List Group) : Type 0 where
  pub known : AreKnown g found
  pub has : (c : Config) → InSome g starts c → InSome g found c
  pub reached : (c : Config) → InSome g found c → ReachedFrom net (InSome g starts) c

-- The list has grown by some of the groups.
pub record AreMore (xs found more : List Group) : Type 0 where
  pub known : (g : List Content) → AreKnown g xs → AreKnown g found → AreKnown g more
  pub has : (g : List Content) (c : Config) → InSome g found c → InSome g more c
  pub only : (g : List Content) (c : Config) → InSome g more c → InSome g found c ⊎ InSome g xs c

-- The list has grown by what a group leads to.
pub record AreFollowed (net : ParserNetwork) (v : View) (x : Group) (found more : List Group) : Type 0 where
  pub known : AreKnown v.graph more
  pub has : (c : Config) → InSome v.graph found c → InSome v.graph more c
  pub led : (c : Config) → InSome v.graph more c → InSome v.graph found c ⊎ ReachedFrom net (IsOfGroup v x) c
