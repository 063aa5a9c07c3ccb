-- The trees of a grammar over a word: well nested, with the tokens in order, each node at the place of its first token, and the children
-- of each node a word of its alternative as the grammar writes it.
use Rattle.std.specs.Prelude.{◌≡◌, ℕ, ◌+◌, List, [], ◌∷◌, length, Some, slice_get, Contains}
use Rattle.g4_source.specs.Elements.{Elements}
use Rattle.g4_source.specs.Rules.{bodies_of}
use Rattle.g4_grammar.specs.declared.step.Step.{Step}
use Rattle.g4_grammar.specs.declared.step.Step.TheVariants.{Edge, Call, Predicate, Level, Action, Empty}
use Rattle.g4_grammar.specs.Derives.{DerivesAll, NoCalls}
use Rattle.g4_grammar.specs.StepRules.{StepRule}
use Rattle.g4_trees.specs.declared.tree.Item.{Item}
use Rattle.g4_trees.specs.declared.tree.Item.TheVariants as items
use Rattle.g4_trees.specs.Trees.{Tree, leaf, node, Forest, no_tree, a_tree, items_of, tokens_of}

-- what the first item of a tree is: a token, or the beginning of a node
abbrev pub head_of : Tree → Item
head_of (leaf at) = items.Token at
head_of (node rule alt at children) = items.Enter rule alt at

-- the first items of trees one after another
abbrev pub heads_of : Forest → List Item
heads_of no_tree = []
heads_of (a_tree t ts) = head_of t ∷ heads_of ts

-- the symbol at this place of the word is one of the set
abbrev pub IsTakenAt : List ℕ → List ℕ → ℕ → Type 0
IsTakenAt word set at = (a : ℕ) × (slice_get word at ≡ Some a) × Contains set a

-- the words of a step over the children of a node, each given by its first item: one token of its set, or one node of the rule
-- that it calls; any other step reads nothing
abbrev pub ReadsChildren : List ℕ → Step (List ℕ) → List Item → Type 0
ReadsChildren word (Edge set) w = (at : ℕ) × (w ≡ items.Token at ∷ []) × IsTakenAt word set at
ReadsChildren word (Call rule level) w = (alt at : ℕ) × (w ≡ items.Enter rule alt at ∷ [])
ReadsChildren word (Predicate k) w = w ≡ []
ReadsChildren word (Level q) w = w ≡ []
ReadsChildren word Action w = w ≡ []
ReadsChildren word Empty w = w ≡ []

-- the alternative of this number in the rule of this number; both count from 1
abbrev pub IsBody : List StepRule → ℕ → ℕ → Elements (Step (List ℕ)) → Type 0
IsBody rules rule alt x = (k i : ℕ) × (r : StepRule) × (rule ≡ k + 1) × (alt ≡ i + 1) × (slice_get rules k ≡ Some r) ×
    (slice_get (bodies_of r) i ≡ Some x)

-- the elements derive these children, each given by its first item
abbrev pub DerivesChildren : List ℕ → Elements (Step (List ℕ)) → List Item → Type 0
DerivesChildren word x children = DerivesAll (ReadsChildren word) NoCalls [] x children

abbrev mutual
  -- The tokens of the tree are those from this place on, in order, and each node is at the place of its first token, or of the next
  -- token where it has none.
  pub IsPlaced : ℕ → Tree → Type 0
  IsPlaced next (leaf at) = at ≡ next
  IsPlaced next (node rule alt at children) = (at ≡ next) × ArePlaced next children

  -- the same of trees one after another
  pub ArePlaced : ℕ → Forest → Type 0
  ArePlaced next no_tree = Unit {0}
  ArePlaced next (a_tree t ts) = IsPlaced next t × ArePlaced (next + length (tokens_of t)) ts

module _ (rules : List StepRule) (word : List ℕ) where
  abbrev mutual
    -- the children of each node are a word of its alternative
    pub Conforms : Tree → Type 0
    Conforms (leaf at) = Unit {0}
    Conforms (node rule alt at children) = ((x : Elements (Step (List ℕ))) × IsBody rules rule alt x ×
        DerivesChildren word x (heads_of children)) × AllConform children

    -- the same of trees one after another
    pub AllConform : Forest → Type 0
    AllConform no_tree = Unit {0}
    AllConform (a_tree t ts) = Conforms t × AllConform ts

  -- the items are those of a node that conforms, whose tokens are the first of the word, in order, each node at the place of its first
  abbrev pub IsTreeOf : List Item → Type 0
  IsTreeOf xs = (rule alt at : ℕ) × (children : Forest) × (xs ≡ items_of (node rule alt at children)) ×
      IsPlaced 0 (node rule alt at children) × Conforms (node rule alt at children)
