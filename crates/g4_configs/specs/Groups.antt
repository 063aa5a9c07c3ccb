-- Groups of configurations over a graph of stacks: for each state and alternative a node.
use Rattle.std.specs.Prelude.{◌≡◌, ◌<◌, ◌↔◌, ◌⊎◌, Contains, ℕ, List, [], ◌∷◌, Bool, Option, Some, None}
use Rattle.g4_stacks.specs.Graph.{Content, HasOf, IsNode}
use Rattle.g4_stacks.specs.Table.{Numbers, number_at}
use Rattle.g4_net.specs.Configurations.{Config}
use Rattle.g4_configs.specs.declared.group.Group.{Group}

-- nodes by state and alternative, in any order
abbrev pub Entries : Type 0
Entries = Numbers

-- the node of a state and an alternative
abbrev pub node_at : Entries → ℕ × ℕ → Option ℕ
node_at es q = number_at es q

-- the node, if there is one, has the stack of these return states above this mark
abbrev pub HasAt : List Content → Option ℕ → List ℕ → Bool → Type 0
HasAt g None returns wild = ⊥
HasAt g (Some n) returns wild = HasOf g n returns wild

-- the configuration is in the set that has these nodes by state and alternative
abbrev pub Within : List Content → Entries → Config → Type 0
Within g m c = HasAt g (node_at m (c.state, c.alt)) c.stack.returns c.stack.wild

-- the numbers are those of nodes that have stacks
abbrev pub AreNodes : List Content → Entries → Type 0
AreNodes g m = (q : ℕ × ℕ) (n : ℕ) → node_at m q ≡ Some n → IsNode g n × (0 < n)

-- the configuration is in the group
pub record InGroup (g : List Content) (x : Group) (c : Config) : Type 0 where
  pub state : c.state ≡ x.state
  pub alt : c.alt ≡ x.alternative
  pub stack : HasOf g x.stacks c.stack.returns c.stack.wild

-- the configuration is in some group of the list
abbrev pub InSome : List Content → List Group → Config → Type 0
InSome g [] c = ⊥
InSome g (x ∷ xs) c = InGroup g x c ⊎ InSome g xs c

-- the groups' numbers are those of nodes
abbrev pub AreKnown : List Content → List Group → Type 0
AreKnown g [] = Unit {0}
AreKnown g (x ∷ xs) = IsNode g x.stacks × AreKnown g xs

-- the members of one set are in another
abbrev pub Subset : (Config → Type 0) → (Config → Type 0) → Type 0
Subset C D = (c : Config) → C c → D c

-- two sets have the same members
abbrev pub Same : (Config → Type 0) → (Config → Type 0) → Type 0
Same C D = (c : Config) → C c ↔ D c

-- an entry of the map as a group
abbrev pub group_of : (ℕ × ℕ) × ℕ → Group
group_of e = record { state = e.0.0; alternative = e.0.1; stacks = e.1 }

-- x comes before y: by state, then by alternative
abbrev pub ComesBefore : Group → Group → Type 0
ComesBefore x y = (x.state < y.state) ⊎ ((x.state ≡ y.state) × (x.alternative < y.alternative))

-- x and y are of different states or alternatives
abbrev pub AreApart : Group → Group → Type 0
AreApart x y = x.state ≡ y.state → x.alternative ≡ y.alternative → ⊥

-- Groups as the parts of a set: each has stacks, each state and alternative appears once.
pub record AreParts (g : List Content) (xs : List Group) : Type 0 where
  pub known : (x : Group) → Contains xs x → IsNode g x.stacks
  pub filled : (x : Group) → Contains xs x → 0 < x.stacks
  pub once : (x y : Group) → Contains xs x → Contains xs y → x.state ≡ y.state → x.alternative ≡ y.alternative → x ≡ y
