-- A tree is read off its postfix form. So a proof distinguishes trees by their nodes.
use Rattle.std.specs.Prelude.{◌≡◌, List, [], ◌∷◌, ◌++◌}
use Rattle.std.specs.Coded.{Coded, code_by, coded_list}
use Rattle.std.proofs.Common.{refl, ap, sym, ◌∙◌, append_assoc}
use Rattle.std.proofs.lemmas.List.{append-nil}
use Rattle.g4_preds.specs.declared.node.Node.{Node}
use Rattle.g4_preds.specs.declared.node.Node.TheVariants.{Not, And, Or}
use Rattle.g4_preds.specs.Postfix.{postfix, trees_from, tree_of, last_tree}
use Rattle.g4_preds.specs.Trees.{Tree, test, negation, conjunction, disjunction}

-- three parts and one more node, put together from the right
joined_parts : (a b : List Node) (n : Node) (rest : List Node) → ((a ++ b) ++ n ∷ []) ++ rest ≡ a ++ (b ++ n ∷ rest)
joined_parts a b n rest = append_assoc (a ++ b) (n ∷ []) rest ∙ append_assoc a b (n ∷ rest)

-- the postfix form makes the tree
pub trees_from-postfix : (t : Tree) (rest : List Node) (trees : List Tree)
    → trees_from (postfix t ++ rest) trees ≡ trees_from rest (t ∷ trees)
trees_from-postfix (test t) rest trees = refl
trees_from-postfix (negation t) rest trees =
    ap (λ ns. trees_from ns trees) (append_assoc (postfix t) (Not ∷ []) rest) ∙ trees_from-postfix t (Not ∷ rest) trees
trees_from-postfix (conjunction a b) rest trees =
    ap (λ ns. trees_from ns trees) (joined_parts (postfix a) (postfix b) And rest)
    ∙ trees_from-postfix a (postfix b ++ And ∷ rest) trees ∙ trees_from-postfix b (And ∷ rest) (a ∷ trees)
trees_from-postfix (disjunction a b) rest trees =
    ap (λ ns. trees_from ns trees) (joined_parts (postfix a) (postfix b) Or rest)
    ∙ trees_from-postfix a (postfix b ++ Or ∷ rest) trees ∙ trees_from-postfix b (Or ∷ rest) (a ∷ trees)

-- the tree of a postfix form
pub tree_of-postfix : (t : Tree) → tree_of (postfix t) ≡ t
tree_of-postfix t = ap last_tree (ap (λ ns. trees_from ns []) (sym (append-nil (postfix t))) ∙ trees_from-postfix t [] [])

-- a tree is stored as its nodes
abbrev pub tree_code : Coded Node → Coded Tree
tree_code nodes = code_by (List Node) (coded_list nodes) postfix tree_of tree_of-postfix
