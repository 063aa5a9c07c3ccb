-- Trees, and the flat lists of items that represent them.
use Rattle.std.specs.Prelude.{◌≡◌, ℕ, List, [], ◌∷◌, ◌++◌, Option, Some, None}
use Rattle.g4_trees.specs.declared.tree.Item.{Item}
use Rattle.g4_trees.specs.declared.tree.Item.TheVariants as items

mutual
  -- a token, by its place in the token list; or a node: its rule, the number of its alternative as the grammar writes it, the
  -- place of the next token when it began, and its children
  pub data Tree : Type 0 where
    leaf : (at : ℕ) → Tree
    node : (rule alt at : ℕ) → Forest → Tree

  -- trees one after another
  pub data Forest : Type 0 where
    no_tree : Forest
    a_tree : Tree → Forest → Forest

-- the trees of a forest as a list
abbrev pub trees_of : Forest → List Tree
trees_of no_tree = []
trees_of (a_tree t ts) = t ∷ trees_of ts

-- the trees of one forest, and then those of another
abbrev pub and_then : Forest → Forest → Forest
and_then no_tree us = us
and_then (a_tree t ts) us = a_tree t (and_then ts us)

-- one tree
abbrev pub only : Tree → Forest
only t = a_tree t no_tree

abbrev mutual
  -- the items of a tree: a node is its beginning, the items of its children, and its end
  pub items_of : Tree → List Item
  items_of (leaf at) = items.Token at ∷ []
  items_of (node rule alt at children) = items.Enter rule alt at ∷ (items_of_all children ++ items.Exit ∷ [])

  -- the items of trees one after another
  pub items_of_all : Forest → List Item
  items_of_all no_tree = []
  items_of_all (a_tree t ts) = items_of t ++ items_of_all ts

abbrev mutual
  -- the places of the tokens of a tree, in order
  pub tokens_of : Tree → List ℕ
  tokens_of (leaf at) = at ∷ []
  tokens_of (node rule alt at children) = tokens_of_all children

  -- the places of the tokens of trees one after another
  pub tokens_of_all : Forest → List ℕ
  tokens_of_all no_tree = []
  tokens_of_all (a_tree t ts) = tokens_of t ++ tokens_of_all ts

-- a tree before the first of these forests
abbrev pub before_first : Tree → List Forest → List Forest
before_first t [] = []
before_first t (ts ∷ more) = a_tree t ts ∷ more

-- the first of these forests as the children of a node, which comes before the next forest
abbrev pub as_children : ℕ → ℕ → ℕ → List Forest → List Forest
as_children rule alt at [] = []
as_children rule alt at (children ∷ more) = before_first (node rule alt at children) more

-- What items represent, looked at from the last: what is complete of each node that ends among them and begins before them,
-- the innermost first, and then the trees after all of these.
abbrev pub forests_of : List Item → List Forest
forests_of [] = no_tree ∷ []
forests_of (items.Enter rule alt at ∷ more) = as_children rule alt at (forests_of more)
forests_of (items.Token at ∷ more) = before_first (leaf at) (forests_of more)
forests_of (items.Exit ∷ more) = no_tree ∷ forests_of more

-- the tree, where there is one tree and nothing else
abbrev pub one_tree : List Forest → Option Tree
one_tree [] = None
one_tree (no_tree ∷ more) = None
one_tree (a_tree t no_tree ∷ []) = Some t
one_tree (a_tree t no_tree ∷ (ts ∷ more)) = None
one_tree (a_tree t (a_tree u us) ∷ more) = None

-- the tree whose items these are, where they are those of a tree
abbrev pub tree_of : List Item → Option Tree
tree_of xs = one_tree (forests_of xs)

-- the items are those of a node with its children
abbrev pub IsNested : List Item → Type 0
IsNested xs = (rule alt at : ℕ) × (children : Forest) × (xs ≡ items_of (node rule alt at children))
