-- A tree that grows: its open nodes, newest first, and the trees that are complete.
use Rattle.std.specs.Prelude.{ℕ, List, [], ◌∷◌}
use Rattle.g4_trees.specs.Trees.{Tree, node, Forest, no_tree, and_then, only}

-- an open node: its rule, the number of its alternative, its place, and its children so far
pub record OpenNode : Type 0 where
  pub rule : ℕ
  pub alt : ℕ
  pub at : ℕ
  pub children : Forest

-- open nodes, newest first, and the trees outside all of them
pub record Growing : Type 0 where
  pub nodes : List OpenNode
  pub trees : Forest

-- nothing so far
abbrev pub nothing_grown : Growing
nothing_grown = record { nodes = []; trees = no_tree }

-- an open node, closed
abbrev pub closed : OpenNode → Tree
closed n = node n.rule n.alt n.at n.children

-- one more tree after the children of the newest of these open nodes, or outside where there is none
abbrev pub one_more : Tree → List OpenNode → Forest → Growing
one_more t [] trees = record { nodes = []; trees = and_then trees (only t) }
one_more t (n ∷ ns) trees = record { nodes = record n { children = and_then n.children (only t) } ∷ ns; trees = trees }

abbrev pub with_tree : Tree → Growing → Growing
with_tree t g = one_more t g.nodes g.trees

-- a node opens
abbrev pub with_node : ℕ → ℕ → ℕ → Growing → Growing
with_node rule alt at g = record g { nodes = record { rule = rule; alt = alt; at = at; children = no_tree } ∷ g.nodes }

-- the newest open node has this alternative
abbrev pub newest_of : ℕ → List OpenNode → List OpenNode
newest_of alt [] = []
newest_of alt (n ∷ ns) = record n { alt = alt } ∷ ns

abbrev pub with_alternative : ℕ → Growing → Growing
with_alternative alt g = record g { nodes = newest_of alt g.nodes }

-- the newest open node, as far as it is, becomes the first child of a new node of the same rule and place, with this alternative
abbrev pub newest_wrapped : ℕ → List OpenNode → List OpenNode
newest_wrapped alt [] = []
newest_wrapped alt (n ∷ ns) = record n { alt = alt; children = only (closed n) } ∷ ns

abbrev pub with_wrap : ℕ → Growing → Growing
with_wrap alt g = record g { nodes = newest_wrapped alt g.nodes }

-- the newest open node closes
abbrev pub close_newest : List OpenNode → Forest → Growing
close_newest [] trees = record { nodes = []; trees = trees }
close_newest (n ∷ ns) trees = one_more (closed n) ns trees

abbrev pub with_close : Growing → Growing
with_close g = close_newest g.nodes g.trees
