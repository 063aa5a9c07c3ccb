-- A merge of two nodes that is not finished, and what it means.
use Rattle.std.specs.Prelude.{◌≡◌, ◌<◌, ◌≤◌, ◌↔◌, ◌⊎◌, ℕ, List, [], ◌∷◌, length, drop}
use Rattle.g4_net.specs.Configurations.{Stack}
use Rattle.g4_stacks.specs.Stack.{pushed}
use Rattle.g4_stacks.specs.Graph.{Content, In, Has, IsNode, Ascends}
use Rattle.g4_stacks.specs.Canonical.{LeadBelow}
use Rattle.g4_stacks.specs.Merge.{ByTop, tops_of}
use Rattle.g4_stacks.specs.declared.joining.Joining.{Joining}

-- tops, with what is left of two lists of tops, have what nodes a and b have above their marks
pub record Joins (graph : List Content) (a b : ℕ) (xs ys tops : List (ℕ × ℕ)) : Type 0 where
  pub left_in : IsNode graph a
  pub right_in : IsNode graph b
  pub low : ℕ
  pub past : (t m : ℕ) → In (t, m) tops → t < low
  pub left : Ascends low xs
  pub right : Ascends low ys
  pub left_lead : LeadBelow a xs
  pub right_lead : LeadBelow b ys
  pub sorted : Ascends 0 tops
  pub lead : LeadBelow (length graph) tops
  pub means : (t : ℕ) (s : Stack) → (Has graph a (pushed t s) ⊎ Has graph b (pushed t s))
      ↔ (ByTop graph tops t s ⊎ (ByTop graph xs t s ⊎ ByTop graph ys t s))

-- the merge has to go on from its places
abbrev pub IsJoining : List Content → Joining → Type 0
IsJoining graph d = Joins graph d.left d.right (drop d.i (tops_of graph d.left)) (drop d.j (tops_of graph d.right)) d.tops.items

-- the merge has all its tops
abbrev pub IsJoined : List Content → Joining → Type 0
IsJoined graph d = Joins graph d.left d.right [] [] d.tops.items

-- the merge needs the stacks of m and n above its state first
abbrev pub IsWaiting : List Content → Joining → ℕ → ℕ → Type 0
IsWaiting graph d m n = Joins graph d.left d.right ((d.state, m) ∷ drop d.i (tops_of graph d.left))
    ((d.state, n) ∷ drop d.j (tops_of graph d.right)) d.tops.items

-- the merge went on from place i, and needs the stacks of m and n first
pub record Awaits (graph : List Content) (i : ℕ) (d : Joining) (m n : ℕ) : Type 0 where
  pub place : ℕ
  pub after : i ≤ place
  pub at : drop place (tops_of graph d.left) ≡ (d.state, m) ∷ drop d.i (tops_of graph d.left)
  pub waits : IsWaiting graph d m n
