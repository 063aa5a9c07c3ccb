-- A set of configurations, and the sets of stacks that belong to it, each by its number.
use Rattle.std.specs.Prelude.{◌≡◌, ◌↔◌, ℕ, List, Some, AllPairs, Contains}
use Rattle.g4_stacks.specs.Graph.{Content, Has, IsNode, Keeps}
use Rattle.g4_net.specs.Configurations.{Config, Stack}
use Rattle.g4_configs.specs.declared.group.Group.{Group}
use Rattle.g4_configs.specs.Groups.{AreApart, AreParts, Entries, InGroup, InSome, Same, Within, node_at}

-- what is kept of a set: the graph of its stacks, and the node of each state and alternative
pub record View : Type 0 where
  pub graph : List Content
  pub nodes : Entries

-- the set has the configuration
abbrev pub Holds : View → Config → Type 0
Holds v c = Within v.graph v.nodes c

-- the number is that of a set of stacks
abbrev pub IsStacks : View → ℕ → Type 0
IsStacks v n = IsNode v.graph n

-- the set of stacks has the stack
abbrev pub HasStack : View → ℕ → Stack → Type 0
HasStack v n s = Has v.graph n s

-- each set of stacks of the one is the same set of stacks of the other
abbrev pub KeepsStacks : View → View → Type 0
KeepsStacks old new = Keeps old.graph new.graph

-- the configuration is of the group
abbrev pub IsOfGroup : View → Group → Config → Type 0
IsOfGroup v x c = InGroup v.graph x c

-- the groups are those of the set, each once
pub record AreGroups (v : View) (xs : List Group) : Type 0 where
  pub parts : AreParts v.graph xs
  pub members : Same (InSome v.graph xs) (Holds v)
  pub entries : (x : Group) → Contains xs x ↔ (node_at v.nodes (x.state, x.alternative) ≡ Some x.stacks)
  pub apart : AllPairs AreApart xs
