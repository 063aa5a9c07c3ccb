-- A tree is known by its items: no other tree has them.
use Rattle.std.proofs.Common.{◌≡◌, [], ◌∷◌, ◌++◌, List, refl, sym, ◌∙◌, ap, append_assoc, append-nil}
use Rattle.std.specs.Prelude.{Some}
use Rattle.g4_tokens.specs.declared.token.Tokens.{Tokens}
use Rattle.g4_source.specs.declared.rule.ParserRule.{ParserRule}
use Rattle.g4_trees.specs.TreeText.{text_of, text_of_some, tree_text}
use Rattle.g4_trees.specs.Events.{events_of, events_of_some, tree_events}
use Rattle.g4_trees.specs.declared.tree.Item.{Item}
use Rattle.g4_trees.specs.declared.tree.Item.TheVariants as items
use Rattle.g4_trees.specs.Trees.{Tree, leaf, node, Forest, no_tree, a_tree, and_then, items_of, items_of_all, before_first, as_children, forests_of, one_tree, tree_of}

-- nothing comes after these trees
and_then_none : (ts : Forest) → and_then ts no_tree ≡ ts
and_then_none no_tree = refl
and_then_none (a_tree t ts) = ap (λ (us : Forest). a_tree t us) (and_then_none ts)

-- trees before the first of these forests
abbrev pub before_all : Forest → List Forest → List Forest
before_all no_tree later = later
before_all (a_tree t ts) later = before_first t (before_all ts later)

-- they are before those of the first
before_all_first : (ts us : Forest) (more : List Forest) → before_all ts (us ∷ more) ≡ and_then ts us ∷ more
before_all_first no_tree us more = refl
before_all_first (a_tree t ts) us more = ap (before_first t) (before_all_first ts us more)

mutual
  -- what the items of a tree before others represent
  pub forests_of_tree : (t : Tree) (rest : List Item) → forests_of (items_of t ++ rest) ≡ before_first t (forests_of rest)
  forests_of_tree (leaf at) rest = refl
  forests_of_tree (node rule alt at children) rest =
      ap (λ (xs : List Item). as_children rule alt at (forests_of xs)) (append_assoc (items_of_all children) (items.Exit ∷ []) rest)
      ∙ ap (as_children rule alt at) (forests_of_trees children (items.Exit ∷ rest)
      ∙ before_all_first children no_tree (forests_of rest) ∙ ap (λ (ts : Forest). ts ∷ forests_of rest) (and_then_none children))

  -- what the items of trees before others represent
  pub forests_of_trees : (ts : Forest) (rest : List Item) → forests_of (items_of_all ts ++ rest) ≡ before_all ts (forests_of rest)
  forests_of_trees no_tree rest = refl
  forests_of_trees (a_tree t ts) rest =
      ap forests_of (append_assoc (items_of t) (items_of_all ts) rest) ∙ forests_of_tree t (items_of_all ts ++ rest)
      ∙ ap (before_first t) (forests_of_trees ts rest)

-- the tree of a tree's items
pub tree_of_items : (t : Tree) → tree_of (items_of t) ≡ Some t
tree_of_items t = ap tree_of (sym (append-nil (items_of t))) ∙ ap one_tree (forests_of_tree t [])

-- trees with the same items are one tree
pub same_tree : (t u : Tree) → items_of t ≡ items_of u → t ≡ u
same_tree t u same = let both : Some t ≡ Some u = sym (tree_of_items t) ∙ ap tree_of same ∙ tree_of_items u in cc

-- the text of a tree is that of its items
pub text_of_items : {A : Type 0} (rules : List (ParserRule A)) (tokens : Tokens) (t : Tree)
    → tree_text rules tokens (items_of t) ≡ text_of rules tokens t
text_of_items rules tokens t = ap (text_of_some rules tokens) (tree_of_items t)

-- the events of a tree are those of its items
pub events_of_items : (t : Tree) → tree_events (items_of t) ≡ events_of t
events_of_items t = ap events_of_some (tree_of_items t)
