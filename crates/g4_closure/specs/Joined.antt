-- Groups added to a set and, where it grew, to a work list.
use Rattle.std.specs.Prelude.{◌≤◌, ◌⊎◌, ◌+◌, List, length}
use Rattle.g4_stacks.specs.Graph.{Keeps}
use Rattle.g4_net.specs.Configurations.{Config}
use Rattle.g4_net.proofs.Pigeons.{In}
use Rattle.g4_configs.specs.declared.group.Group.{Group}
use Rattle.g4_configs.specs.Configs.{Holds, View}
use Rattle.g4_configs.specs.Groups.{AreKnown, InSome, Same}
use Rattle.g4_closure.specs.Missing.{lacks}

-- The new set has the groups too, and what it has more waits on the work list. Each group that waits more is paid for by
-- a configuration that the set lacked.
pub record Joined (v : View) (work more : List Group) (v' : View) (work' : List Group) : Type 0 where
  pub keeps : Keeps v.graph v'.graph
  pub known : AreKnown v'.graph work'
  pub members : Same (Holds v') (λ c. Holds v c ⊎ InSome v.graph more c)
  pub waits : (c : Config) → Holds v' c → Holds v c ⊎ InSome v'.graph work' c
  pub stays : (c : Config) → InSome v.graph work c → InSome v'.graph work' c
  pub only : (c : Config) → InSome v'.graph work' c → InSome v.graph work c ⊎ InSome v.graph more c
  pub spent : (all : List Config) → ((c : Config) → Holds v' c → In c all) → lacks v' all + length work' ≤ lacks v all + length work
