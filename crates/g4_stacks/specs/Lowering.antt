-- Stacks put in the place of the bottom of others.
use Rattle.std.specs.Prelude.{◌≡◌, ◌<◌, ◌↔◌, ◌⊎◌, ℕ, List, ◌++◌, Some, slice_get, false}
use Rattle.g4_net.specs.Configurations.{Stack}
use Rattle.g4_stacks.specs.Stack.{bottom, pushed}
use Rattle.g4_stacks.specs.Graph.{Content, Has, HasOf, IsNode, Keeps}

-- the stack with return states above its own
abbrev pub stacked : List ℕ → Stack → Stack
stacked returns s = record { returns = returns ++ s.returns; wild = s.wild }

-- the stack is one of the node n above the bottom, with one of the node under in the place of the bottom
abbrev pub IsLowered : List Content → ℕ → ℕ → Stack → Type 0
IsLowered graph n under s = (returns : List ℕ) × (r : Stack) × HasOf graph n returns false × Has graph under r × (s ≡ stacked returns r)

-- the bottom alone is one of the stacks of n, and the stack is one of those in its place
abbrev pub IsAlone : List Content → ℕ → ℕ → Stack → Type 0
IsAlone graph n under s = Has graph n bottom × Has graph under s

-- the numbers are those of nodes that have these stacks of the nodes in turn
abbrev pub AreLowered : List Content → ℕ → List ℕ → Type 0
AreLowered graph under images = (n r : ℕ) → slice_get images n ≡ Some r
    → IsNode graph n × IsNode graph r × ((s : Stack) → Has graph r s ↔ IsLowered graph n under s)

-- the stack has one of the first tops on one of these stacks of the node below that top
abbrev pub IsOfTops : List Content → List (ℕ × ℕ) → ℕ → ℕ → Stack → Type 0
IsOfTops graph tops j under s = (k u m : ℕ) × (k < j) × (slice_get tops k ≡ Some (u, m))
    × ((r : Stack) × IsLowered graph m under r × (s ≡ pushed u r))

-- The node has, of those of another, the stacks in the place of the bottom alone and those with the first tops.
pub record IsLowering (old new : List Content) (n under : ℕ) (tops : List (ℕ × ℕ)) (j result : ℕ) : Type 0 where
  pub keeps : Keeps old new
  pub known : IsNode new result
  pub means : (s : Stack) → Has new result s ↔ (IsAlone old n under s ⊎ IsOfTops old tops j under s)
