-- Nodes taken over from another graph, lower nodes first, each where the graph lacks its set.
use Rattle.std.specs.Prelude.{◌≡◌, ◌↔◌, ℕ, List, [], ◌∷◌, Some, slice_get, slice_index}
use Rattle.std.specs.Ordering.{nat_cmp}
use Rattle.std.specs.BTreeMap.{BTreeMap, get}
use Rattle.g4_net.specs.Configurations.{Stack}
use Rattle.g4_stacks.specs.Graph.{Content, Has, IsNode}
use Rattle.g4_stacks.specs.Table.{IsAdded}
use Rattle.g4_stacks.specs.Canonical.{nothing, only_bottom, only_wildcard, IsCanonical}

-- a graph of the empty set, `$` alone and `#` alone
abbrev pub fresh : List Content
fresh = nothing ∷ only_bottom ∷ only_wildcard ∷ []

-- the content with other tops
abbrev pub with_tops : Content → List (ℕ × ℕ) → Content
with_tops c tops = record { end = c.end; wild = c.wild; tops = tops }

mutual
  -- the other graph's node n becomes the node r, and the graph old becomes new
  pub data Takes (other : List Content) : ℕ → List Content → List Content → ℕ → Type 0 where
    takes : (n r : ℕ) (c : Content) (old mid new : List Content) (tops : List (ℕ × ℕ)) → slice_get other n ≡ Some c
        → TakesTops other c.tops old mid tops
        → IsAdded mid (with_tops c tops) new → slice_get new r ≡ Some (with_tops c tops) → Takes other n old new r

  -- the nodes below, in the order of the states
  pub data TakesTops (other : List Content) : List (ℕ × ℕ) → List Content → List Content → List (ℕ × ℕ) → Type 0 where
    no_top : (g : List Content) → TakesTops other [] g g []
    a_top : (t m r : ℕ) (es rs : List (ℕ × ℕ)) (old mid new : List Content) → Takes other m old mid r → TakesTops other es mid new rs
        → TakesTops other ((t, m) ∷ es) old new ((t, r) ∷ rs)

-- one node after another
pub data TakesEach (other : List Content) : List ℕ → List Content → List Content → List ℕ → Type 0 where
  no_root : (g : List Content) → TakesEach other [] g g []
  a_root : (m r : ℕ) (es rs : List ℕ) (old mid new : List Content) → Takes other m old mid r → TakesEach other es mid new rs
      → TakesEach other (m ∷ es) old new (r ∷ rs)

-- both nodes have the same stacks
abbrev pub Alike : List Content → ℕ → List Content → ℕ → Type 0
Alike g n h m = (s : Stack) → Has g n s ↔ Has h m s

-- the nodes have the same stacks in turn
abbrev pub EachAlike : List Content → List ℕ → List Content → List ℕ → Type 0
EachAlike g [] h [] = Unit {0}
EachAlike g [] h (r ∷ rs) = ⊥
EachAlike g (n ∷ ns) h [] = ⊥
EachAlike g (n ∷ ns) h (r ∷ rs) = IsNode h r × Alike g n h r × EachAlike g ns h rs

-- the map has the numbers of nodes that were taken over before
abbrev pub IsKnown : List Content → List Content → BTreeMap ℕ ℕ → Type 0
IsKnown other graph known = (n r : ℕ) → get nat_cmp known n ≡ Some r → Takes other n graph graph r

-- the nodes are what a new graph takes over of some nodes of a canonical graph, and the roots are the numbers of these
pub record IsCopy (nodes : List Content) (roots : List ℕ) : Type 0 where
  pub source : List Content
  pub taken : List ℕ
  pub canonical : IsCanonical source
  pub takes : TakesEach source taken fresh nodes roots

-- the tops with other numbers for the nodes
abbrev pub renumbered : List ℕ → List (ℕ × ℕ) → List (ℕ × ℕ)
renumbered numbers [] = []
renumbered numbers (e ∷ es) = (e.0, slice_index numbers e.1) ∷ renumbered numbers es
