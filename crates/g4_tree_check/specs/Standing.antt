-- How far reading has come in a tree: what the items that are still to be read must be.
use Rattle.std.specs.Prelude.{◌≡◌, ℕ, ◌+◌, List, [], ◌∷◌, ◌++◌, length, reverse}
use Rattle.g4_source.specs.Elements.{Elements}
use Rattle.g4_grammar.specs.declared.step.Step.{Step}
use Rattle.g4_grammar.specs.StepRules.{StepRule}
use Rattle.g4_trees.specs.declared.tree.Item.{Item}
use Rattle.g4_trees.specs.declared.tree.Item.TheVariants as items
use Rattle.g4_trees.specs.Trees.{Forest, items_of_all, tokens_of_all}
use Rattle.g4_tree_check.specs.declared.standing.OpenNode.{OpenNode}
use Rattle.g4_tree_check.specs.declared.standing.Standing.{Standing}
use Rattle.g4_tree_check.specs.TreesOf.{heads_of, IsBody, DerivesChildren, ArePlaced, AllConform}

-- there is one child, a node
abbrev pub IsOneNode : List Item → Type 0
IsOneNode heads = (rule alt at : ℕ) × (heads ≡ items.Enter rule alt at ∷ [])

module _ (rules : List StepRule) (word : List ℕ) where
  -- the children, each given by its first item, are a word of this alternative
  abbrev pub FitsBody : ℕ → ℕ → List Item → Type 0
  FitsBody rule alt heads = (x : Elements (Step (List ℕ))) × IsBody rules rule alt x × DerivesChildren word x heads

  -- The items are trees that conform, with the tokens from this one on, and then something that may come after all these children.
  abbrev pub Grows : (List Item → ℕ → List Item → Type 0) → List Item → ℕ → List Item → Type 0
  Grows MayFollow heads next rest =
      (later : Forest) × (after : List Item) × (rest ≡ items_of_all later ++ after) × ArePlaced next later
      × AllConform rules word later × MayFollow (heads ++ heads_of later) (next + length (tokens_of_all later)) after

  -- The items after the last child of the newest open node: its end, more children of the node around it, and so on. Where no
  -- node is open, there was one tree, a node, and nothing comes after it.
  abbrev pub Closes : List OpenNode → List Item → ℕ → List Item → Type 0
  Closes [] heads next rest = (rest ≡ []) × IsOneNode heads
  Closes (node ∷ more) heads next rest =
      (after : List Item) × (rest ≡ items.Exit ∷ after) × FitsBody node.rule node.alt heads
      × Grows (Closes more) (node.before.items ++ items.Enter node.rule node.alt node.at ∷ []) next after

  -- The items complete a tree that conforms: these nodes are open, the newest first, these are the children of the newest one so
  -- far, and this is the place of the next token.
  abbrev pub Completes : List OpenNode → List Item → ℕ → List Item → Type 0
  Completes nodes heads next rest = Grows (Closes nodes) heads next rest

  -- the same of how far reading has come
  abbrev pub CanEnd : Standing → List Item → Type 0
  CanEnd standing rest = Completes (reverse standing.nodes.items) standing.heads.items standing.next rest
