-- What waits while a set gets all that its members lead to.
use Rattle.std.specs.Prelude.{◌≤◌, ◌⊎◌, ◌+◌, List, length}
use Rattle.g4_stacks.specs.Graph.{Keeps}
use Rattle.g4_net.specs.Network.{ParserNetwork}
use Rattle.g4_net.specs.Configurations.{Config}
use Rattle.g4_net.specs.Leads.{Leads}
use Rattle.g4_net.proofs.Pigeons.{In}
use Rattle.g4_configs.specs.declared.group.Group.{Group}
use Rattle.g4_configs.specs.Configs.{Holds, View}
use Rattle.g4_configs.specs.Groups.{AreKnown, InGroup, InSome, Same}
use Rattle.g4_closure.specs.Missing.{lacks}
use Rattle.g4_closure.specs.Steps.{LedFrom, ReachedFrom}

-- The groups that wait are of the set, and what a member of the set leads to is in it, unless the member waits.
pub record IsWaiting (net : ParserNetwork) (v : View) (work : List Group) : Type 0 where
  pub known : AreKnown v.graph work
  pub held : (c : Config) → InSome v.graph work c → Holds v c
  pub closed : (c d : Config) → Holds v c → Leads net c d → Holds v d ⊎ InSome v.graph work c

-- The new set has what the set has, and nothing that the set does not reach.
pub record IsLater (net : ParserNetwork) (v v' : View) : Type 0 where
  pub keeps : Keeps v.graph v'.graph
  pub has : (c : Config) → Holds v c → Holds v' c
  pub reached : (c : Config) → Holds v' c → ReachedFrom net (Holds v) c

-- The new set has what a group leads to in one step too, and what it has more waits. Each group more that waits is paid for by
-- a configuration that the set lacked.
pub record IsExtended (net : ParserNetwork) (x : Group) (v : View) (work : List Group) (v' : View) (work' : List Group) : Type 0 where
  pub keeps : Keeps v.graph v'.graph
  pub known : AreKnown v'.graph work'
  pub members : Same (Holds v') (λ c. Holds v c ⊎ LedFrom net (InGroup v.graph x) c)
  pub waits : (c : Config) → Holds v' c → Holds v c ⊎ InSome v'.graph work' c
  pub stays : (c : Config) → InSome v.graph work c → InSome v'.graph work' c
  pub only : (c : Config) → InSome v'.graph work' c → InSome v.graph work c ⊎ LedFrom net (InGroup v.graph x) c
  pub spent : (all : List Config) → ((c : Config) → Holds v' c → In c all) → lacks v' all + length work' ≤ lacks v all + length work

-- each group that waits is paid for by a configuration that the set lacked
abbrev pub IsSpent : View → View → List Group → Type 0
IsSpent v v' work' = (all : List Config) → ((c : Config) → Holds v' c → In c all) → lacks v' all + length work' ≤ lacks v all
