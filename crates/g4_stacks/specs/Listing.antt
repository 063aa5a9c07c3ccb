-- The stacks of a node as a list in order, which is the same for each graph in which a node has these stacks.
use Rattle.std.specs.Prelude.{◌≡◌, ◌↔◌, ℕ, zero, suc, List, [], ◌∷◌, ◌++◌, Bool, true, false, Option, Some, None, slice_get, map, Contains}
use Rattle.g4_net.specs.Configurations.{Stack, wildcard, StackPrecedes}
use Rattle.g4_stacks.specs.Stack.{bottom, pushed}
use Rattle.g4_stacks.specs.Graph.{Content, Has}
use Rattle.g4_stacks.specs.Canonical.{IsCanonical}

-- a mark alone, where it is in the set
abbrev pub marked : Bool → Stack → List Stack
marked true s = s ∷ []
marked false s = []

-- for each top in turn, the rests in order with the state pushed
abbrev pub above : (ℕ → List Stack) → List (ℕ × ℕ) → List Stack
above rests [] = []
above rests (e ∷ es) = map (pushed e.0) (rests e.1) ++ above rests es

-- what is held: `$`, then `#`, then the stacks with a state on top
abbrev pub listed : (ℕ → List Stack) → Option Content → List Stack
listed rests None = []
listed rests (Some c) = marked c.end bottom ++ (marked c.wild wildcard ++ above rests c.tops)

-- the stacks of a node that is below the bound; those that it leads to are below a lower one
abbrev pub stacks_below : List Content → ℕ → ℕ → List Stack
stacks_below graph zero n = []
stacks_below graph (suc k) n = listed (stacks_below graph k) (slice_get graph n)

-- all stacks of a node, in order
unfoldable pub stacks_of : List Content → ℕ → List Stack
stacks_of graph n = stacks_below graph (suc n) n

-- each stack precedes the next
abbrev pub StacksRise : List Stack → Type 0
StacksRise [] = Unit {0}
StacksRise (s ∷ []) = Unit {0}
StacksRise (s ∷ t ∷ more) = StackPrecedes s t × StacksRise (t ∷ more)

-- the list of a node has its stacks and no others
abbrev pub ListsAreExact : Type 0
ListsAreExact = (graph : List Content) (n : ℕ) (s : Stack) → IsCanonical graph → Contains (stacks_of graph n) s ↔ Has graph n s

-- and is in order
abbrev pub ListsAreInOrder : Type 0
ListsAreInOrder = (graph : List Content) (n : ℕ) → IsCanonical graph → StacksRise (stacks_of graph n)

-- nodes have equal lists exactly where they have the same stacks
abbrev pub ListsAreCanonical : Type 0
ListsAreCanonical = (g h : List Content) (n m : ℕ) → IsCanonical g → IsCanonical h
    → (stacks_of g n ≡ stacks_of h m) ↔ ((s : Stack) → Has g n s ↔ Has h m s)
