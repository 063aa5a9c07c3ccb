-- The nodes of a tree. The number of a node is the place of its beginning among the items: a parent comes before its children.
use Rattle.std.specs.Prelude.{ℕ, suc, List, [], ◌∷◌, Option, Some, None, slice_get}
use Rattle.g4_base.specs.declared.place.Place.{Place}
use Rattle.g4_tokens.specs.declared.token.Token.{Token}
use Rattle.g4_trees.specs.declared.tree.Item.{Item}
use Rattle.g4_trees.specs.declared.tree.Item.TheVariants as items

-- the nodes that begin among these items, the first of which has this place
abbrev pub nodes_from : ℕ → List Item → List ℕ
nodes_from k [] = []
nodes_from k (items.Enter rule alt at ∷ more) = k ∷ nodes_from (suc k) more
nodes_from k (items.Token at ∷ more) = nodes_from (suc k) more
nodes_from k (items.Exit ∷ more) = nodes_from (suc k) more

-- the nodes in preorder
abbrev pub nodes_of : List Item → List ℕ
nodes_of xs = nodes_from 0 xs

-- the place of a token that was looked up
abbrev pub place_by : Option Token → Option Place
place_by None = None
place_by (Some token) = Some token.place

-- the place of the node that was looked up: that of the next token when it began
abbrev pub place_of_item : List Token → Option Item → Option Place
place_of_item list None = None
place_of_item list (Some (items.Enter rule alt at)) = place_by (slice_get list at)
place_of_item list (Some (items.Token at)) = None
place_of_item list (Some items.Exit) = None

-- the place of the node of this number, where there is one and the list has its token
abbrev pub place_of : List Token → List Item → ℕ → Option Place
place_of list xs n = place_of_item list (slice_get xs n)
