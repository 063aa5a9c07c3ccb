-- What is kept of a tree that grows. A node that becomes the first child of a new one is not moved: it is only written down
-- where it ends and which alternative it had, and the item with which it begins has the alternative of the new node.
use Rattle.std.specs.Prelude.{◌≡◌, ◌≤◌, ◌<◌, ◌==◌, ℕ, suc, List, [], ◌∷◌, ◌++◌, length, cond}
use Rattle.g4_trees.specs.declared.tree.Item.{Item}
use Rattle.g4_trees.specs.declared.tree.Item.TheVariants as items
use Rattle.g4_trees.specs.Trees.{leaf, node, Forest, no_tree, a_tree, and_then, only}
use Rattle.g4_trees.specs.Growing.{OpenNode, Growing}
use Rattle.g4_trees.specs.declared.builder.TreeBuilder.{TreeBuilder}
use Rattle.g4_trees.specs.declared.builder.Wrap.{Wrap}

-- an entry: an item; or the end of a node with this alternative that became the first child of a new node
pub data Entry : Type 0 where
  kept : Item → Entry
  wrap : ℕ → Entry

-- the entries that items and wraps represent, the first item being at place k
abbrev pub entries_from : ℕ → List Item → List Wrap → List Entry
entries_from k [] ws = []
entries_from k (x ∷ xs) [] = kept x ∷ entries_from (suc k) xs []
entries_from k (x ∷ xs) (w ∷ ws) = cond (w.end == k) (wrap w.alt ∷ entries_from (suc k) xs ws) (kept x ∷ entries_from (suc k) xs (w ∷ ws))

-- the places of wraps are in order, from k on and below n
abbrev pub AreOrdered : ℕ → List Wrap → ℕ → Type 0
AreOrdered k [] n = Unit {0}
AreOrdered k (w ∷ ws) n = (k ≤ w.end) × (w.end < n) × AreOrdered (suc w.end) ws n

mutual
  -- the entries are those of whole trees
  pub data AreTrees : List Entry → Forest → Type 0 where
    none : AreTrees [] no_tree
    a_token : (es all : List Entry) (ts us : Forest) (at : ℕ) → AreTrees es ts → all ≡ es ++ kept (items.Token at) ∷ []
        → us ≡ and_then ts (only (leaf at)) → AreTrees all us
    a_node : (es xs all : List Entry) (ts children us : Forest) (rule alt at : ℕ) → AreTrees es ts → AreChildren rule at xs children
        → all ≡ es ++ (kept (items.Enter rule alt at) ∷ (xs ++ kept items.Exit ∷ []))
        → us ≡ and_then ts (only (node rule alt at children)) → AreTrees all us

  -- the entries after the beginning of a node of this rule and place are those of its children
  pub data AreChildren : ℕ → ℕ → List Entry → Forest → Type 0 where
    as_they_are : (rule at : ℕ) (es : List Entry) (ts : Forest) → AreTrees es ts → AreChildren rule at es ts
    after_wrap : (rule alt at : ℕ) (xs es all : List Entry) (children ts us : Forest) → AreChildren rule at xs children
        → AreTrees es ts → all ≡ xs ++ wrap alt ∷ es → us ≡ a_tree (node rule alt at children) ts → AreChildren rule at all us

-- the entries are those of these open nodes, newest first, which begin at these places, newest last, and of the trees outside
abbrev pub StandFor : List Entry → List ℕ → List OpenNode → Forest → Type 0
StandFor es enters [] trees = (enters ≡ []) × AreTrees es trees
StandFor es enters (n ∷ ns) trees = (before xs : List Entry) × (more : List ℕ)
    × (es ≡ before ++ kept (items.Enter n.rule n.alt n.at) ∷ xs) × (enters ≡ more ++ length before ∷ [])
    × AreChildren n.rule n.at xs n.children × StandFor before more ns trees

-- the builder has grown this
pub record HasGrown (b : TreeBuilder) (g : Growing) : Type 0 where
  pub ordered : AreOrdered 0 b.wraps.items (length b.items.items)
  pub stand : StandFor (entries_from 0 b.items.items b.wraps.items) b.enters.items g.nodes g.trees
