-- The postfix form of a predicate, in which operators come after their operands.
use Rattle.std.specs.Prelude.{ℕ, false, List, [], ◌∷◌, ◌++◌}
use Rattle.g4_preds.specs.declared.node.Test.TheVariants.{Constant}
use Rattle.g4_preds.specs.declared.node.Node.{Node}
use Rattle.g4_preds.specs.declared.node.Node.TheVariants.{Operand, Not, And, Or}
use Rattle.g4_preds.specs.Trees.{Tree, test, negation, conjunction, disjunction, rule_of}

-- the postfix form of a tree
abbrev pub postfix : Tree → List Node
postfix (test t) = Operand t ∷ []
postfix (negation t) = postfix t ++ Not ∷ []
postfix (conjunction a b) = (postfix a ++ postfix b) ++ And ∷ []
postfix (disjunction a b) = (postfix a ++ postfix b) ++ Or ∷ []

-- the trees, last first, of these nodes and of the trees before them
abbrev pub trees_from : List Node → List Tree → List Tree
trees_from [] trees = trees
trees_from (Operand t ∷ nodes) trees = trees_from nodes (test t ∷ trees)
trees_from (Not ∷ nodes) [] = []
trees_from (Not ∷ nodes) (t ∷ trees) = trees_from nodes (negation t ∷ trees)
trees_from (And ∷ nodes) [] = []
trees_from (And ∷ nodes) (b ∷ []) = []
trees_from (And ∷ nodes) (b ∷ a ∷ trees) = trees_from nodes (conjunction a b ∷ trees)
trees_from (Or ∷ nodes) [] = []
trees_from (Or ∷ nodes) (b ∷ []) = []
trees_from (Or ∷ nodes) (b ∷ a ∷ trees) = trees_from nodes (disjunction a b ∷ trees)

-- the last of these trees
abbrev pub last_tree : List Tree → Tree
last_tree [] = test (Constant false)
last_tree (t ∷ trees) = t

-- the tree whose postfix form the nodes are
abbrev pub tree_of : List Node → Tree
tree_of nodes = last_tree (trees_from nodes [])

-- the rule that a node names
abbrev pub rule_in : Node → List (List ℕ)
rule_in (Operand t) = rule_of t
rule_in Not = []
rule_in And = []
rule_in Or = []
