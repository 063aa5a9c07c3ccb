-- Where the trees end that begin among some items.
use Rattle.std.specs.Prelude.{◌≡◌, ◌<◌, ◌^◌, ℕ, suc, ◌+◌, List, [], ◌∷◌, length, Some, slice_get}
use Rattle.g4_trees.specs.declared.tree.Item.{Item}
use Rattle.g4_trees.specs.declared.tree.Item.TheVariants as items
use Rattle.g4_trees.specs.Trees.{Tree, items_of}
use Rattle.g4_patterns.specs.Places.{AreOneTree, IsTreeAt}

-- for the place of each tree, the place of its last item
abbrev pub AreLasts : List Item → List ℕ → Type 0
AreLasts xs lasts = (k : ℕ) (t : Tree) → IsTreeAt xs k t
    → (last : ℕ) × (slice_get lasts k ≡ Some last) × (suc last ≡ k + length (items_of t))

-- The items from a place on are read from the last one back to there: the places of the ends of nodes that began before, the innermost
-- first, and the last place of each tree from there on.
pub record Read : Type 0 where
  pub open_ends : List ℕ
  pub lasts : List ℕ

-- a node begins at this place
abbrev pub entered : ℕ → List ℕ → List ℕ → Read
entered k [] lasts = record { open_ends = []; lasts = k ∷ lasts }
entered k (last ∷ more) lasts = record { open_ends = more; lasts = last ∷ lasts }

-- one item more before them, at this place
abbrev pub read_before : ℕ → Item → Read → Read
read_before k (items.Enter rule alt at) r = entered k r.open_ends r.lasts
read_before k (items.Token at) r = record { open_ends = r.open_ends; lasts = k ∷ r.lasts }
read_before k items.Exit r = record { open_ends = k ∷ r.open_ends; lasts = k ∷ r.lasts }

-- items that begin at this place
abbrev pub read : ℕ → List Item → Read
read k [] = record { open_ends = []; lasts = [] }
read k (x ∷ xs) = read_before k x (read (suc k) xs)

-- the items are those of a tree, few enough for numbers of 32 bits, and these are the places of the last items of its trees
pub record IsIndexed (xs : List Item) (lasts : List ℕ) : Type 0 where
  pub few : length xs < 2 ^ 32
  pub nested : AreOneTree xs
  pub lasts_are : AreLasts xs lasts
