-- Trees that are built one after another.
use Rattle.std.proofs.Common.{◌≡◌, ℕ, List, [], ◌∷◌, ◌++◌, refl, sym, ◌∙◌, ap, append_assoc, append-nil}
use Rattle.g4_trees.specs.declared.tree.Item.{Item}
use Rattle.g4_trees.specs.declared.tree.Item.TheVariants as items
use Rattle.g4_trees.specs.Trees.{Tree, leaf, node, Forest, no_tree, a_tree, and_then, only, items_of, items_of_all}
use Rattle.g4_patterns.specs.Places.{AreOneTree}

-- the items of some trees and then of others
items_and : (ts us : Forest) → items_of_all (and_then ts us) ≡ items_of_all ts ++ items_of_all us
items_and no_tree us = refl
items_and (a_tree t ts) us =
    ap (λ (xs : List Item). items_of t ++ xs) (items_and ts us) ∙ sym (append_assoc (items_of t) (items_of_all ts) (items_of_all us))

-- the items are those of trees
abbrev pub AreTrees : List Item → Type 0
AreTrees xs = (trees : Forest) × (xs ≡ items_of_all trees)

-- and a token
pub token_after : (xs all : List Item) (at : ℕ) → AreTrees xs → all ≡ xs ++ items.Token at ∷ [] → AreTrees all
token_after xs all at h e = (
  and_then h.0 (only (leaf at)),
  e ∙ ap (λ (ys : List Item). ys ++ items.Token at ∷ []) h.1 ∙ sym (items_and h.0 (only (leaf at))),
)

-- and a node
pub node_after : (xs ys all : List Item) (rule alt at : ℕ) → AreTrees xs → AreTrees ys
    → all ≡ ((xs ++ items.Enter rule alt at ∷ []) ++ ys) ++ items.Exit ∷ [] → AreTrees all
node_after xs ys all rule alt at h g e = (
  and_then h.0 (only (node rule alt at g.0)),
  e ∙ ap (λ (zs : List Item). ((zs ++ items.Enter rule alt at ∷ []) ++ ys) ++ items.Exit ∷ []) h.1
      ∙ ap (λ (zs : List Item). ((items_of_all h.0 ++ items.Enter rule alt at ∷ []) ++ zs) ++ items.Exit ∷ []) g.1
      ∙ regroup (items_of_all h.0) (items_of_all g.0) ∙ sym (items_and h.0 (only (node rule alt at g.0))),
)
  where
    regroup : (a b : List Item) → ((a ++ items.Enter rule alt at ∷ []) ++ b) ++ items.Exit ∷ []
        ≡ a ++ ((items.Enter rule alt at ∷ (b ++ items.Exit ∷ [])) ++ [])
    regroup a b = simp (append_assoc, append-nil)

-- a node
pub node_alone : (ys all : List Item) (rule alt at : ℕ) → AreTrees ys
    → all ≡ (([] ++ items.Enter rule alt at ∷ []) ++ ys) ++ items.Exit ∷ [] → AreOneTree all
node_alone ys all rule alt at g e = (
  node rule alt at g.0,
  e ∙ ap (λ (zs : List Item). (([] ++ items.Enter rule alt at ∷ []) ++ zs) ++ items.Exit ∷ []) g.1,
)
