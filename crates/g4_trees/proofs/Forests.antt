-- Trees one after another.
use Rattle.std.proofs.Common.{◌≡◌, ◌++◌, List, refl, sym, ◌∙◌, ap, append_assoc}
use Rattle.g4_trees.specs.declared.tree.Item.{Item}
use Rattle.g4_trees.specs.Trees.{Forest, no_tree, a_tree, and_then, items_of, items_of_all}

-- nothing more
pub and_none : (ts : Forest) → and_then ts no_tree ≡ ts
and_none no_tree = refl
and_none (a_tree t ts) = ap (a_tree t) (and_none ts)

-- three forests
pub and_assoc : (ts us vs : Forest) → and_then (and_then ts us) vs ≡ and_then ts (and_then us vs)
and_assoc no_tree us vs = refl
and_assoc (a_tree t ts) us vs = ap (a_tree t) (and_assoc ts us vs)

-- the items of two forests
pub items_and : (ts us : Forest) → items_of_all (and_then ts us) ≡ items_of_all ts ++ items_of_all us
items_and no_tree us = refl
items_and (a_tree t ts) us = ap (λ (xs : List Item). items_of t ++ xs) (items_and ts us)
    ∙ sym (append_assoc (items_of t) (items_of_all ts) (items_of_all us))
