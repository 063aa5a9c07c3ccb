-- Sets of stacks as nodes of a graph, and which stacks a node has.
use Rattle.std.specs.Prelude.{◌≡◌, ◌<◌, ◌≤◌, ◌↔◌, ◌⊎◌, ℕ, suc, List, [], ◌∷◌, Bool, true, false, Option, Some, None, IsTrue, length, slice_get}
use Rattle.g4_net.specs.Configurations.{Stack}
use Rattle.g4_stacks.specs.Stack.{pushed}

-- What a node holds: whether `$` alone is in the set, whether `#` alone is, and for each state on top the node of the rests.
pub record Content : Type 0 where
  pub end : Bool
  pub wild : Bool
  pub tops : List (ℕ × ℕ)

-- x is one of xs
abbrev pub In : {X : Type 0} → X → List X → Type 0
In x [] = ⊥
In x (y ∷ ys) = (x ≡ y) ⊎ In x ys

-- the mark alone is in the set
abbrev pub IsMarked : Option Content → Bool → Type 0
IsMarked None wild = ⊥
IsMarked (Some c) true = IsTrue c.wild
IsMarked (Some c) false = IsTrue c.end

-- the state leads to the node m
abbrev pub LeadsTo : Option Content → ℕ → ℕ → Type 0
LeadsTo None t m = ⊥
LeadsTo (Some c) t m = In (t, m) c.tops

-- the node has the stack of these return states above this mark
abbrev pub HasOf : List Content → ℕ → List ℕ → Bool → Type 0
HasOf graph n [] wild = IsMarked (slice_get graph n) wild
HasOf graph n (t ∷ rest) wild = (m : ℕ) × LeadsTo (slice_get graph n) t m × HasOf graph m rest wild

-- the node has the stack
abbrev pub Has : List Content → ℕ → Stack → Type 0
Has graph n s = HasOf graph n s.returns s.wild

-- the number is that of a node
abbrev pub IsNode : List Content → ℕ → Type 0
IsNode graph n = n < length graph

-- a graph that has each node of another, meaning the same
abbrev pub Keeps : List Content → List Content → Type 0
Keeps old new = (n : ℕ) → IsNode old n → IsNode new n × ((s : Stack) → Has old n s ↔ Has new n s)

-- the stack is one of the node's with the state on top
abbrev pub IsPushed : List Content → ℕ → ℕ → Stack → Type 0
IsPushed graph n t s = (r : Stack) × Has graph n r × (s ≡ pushed t r)

-- the states ascend strictly, from low on
abbrev pub Ascends : ℕ → List (ℕ × ℕ) → Type 0
Ascends low [] = Unit {0}
Ascends low (e ∷ es) = (low ≤ e.0) × Ascends (suc e.0) es

-- the states on top of the node's stacks, each once, with a node of the rests
pub record HasTops (graph : List Content) (n : ℕ) (tops : List (ℕ × ℕ)) : Type 0 where
  pub sorted : Ascends 0 tops
  pub known : (t m : ℕ) → In (t, m) tops → IsNode graph m
  pub rests : (t m : ℕ) → In (t, m) tops → (s : Stack) → Has graph m s ↔ Has graph n (pushed t s)
  pub some : (t m : ℕ) → In (t, m) tops → (s : Stack) × Has graph m s
  pub all : (t : ℕ) (s : Stack) → Has graph n (pushed t s) → (m : ℕ) × In (t, m) tops
