-- Trees among items. The place of a tree is that of its first item.
use Rattle.std.specs.Prelude.{◌≡◌, ℕ, List, ◌++◌, drop}
use Rattle.g4_trees.specs.declared.tree.Item.{Item}
use Rattle.g4_trees.specs.Trees.{Tree, items_of}

-- the items are those of one tree
abbrev pub AreOneTree : List Item → Type 0
AreOneTree xs = (t : Tree) × (xs ≡ items_of t)

-- from the item at this place on, the items begin with those of this tree
abbrev pub IsTreeAt : List Item → ℕ → Tree → Type 0
IsTreeAt xs k t = (rest : List Item) × (drop k xs ≡ items_of t ++ rest)
