-- The trees of one forest and then those of another: their first items, their tokens, and whether they conform.
use Rattle.std.proofs.Common.{◌≡◌, ℕ, ◌+◌, List, ◌∷◌, ◌++◌, length, length-append, refl, sym, ◌∙◌, ap, subst, append_assoc, arith}
use Rattle.g4_grammar.specs.StepRules.{StepRule}
use Rattle.g4_trees.specs.declared.tree.Item.{Item}
use Rattle.g4_trees.specs.Trees.{Tree, Forest, no_tree, a_tree, and_then, only, tokens_of, tokens_of_all}
use Rattle.g4_tree_check.specs.TreesOf.{head_of, heads_of, ArePlaced, AllConform}

-- their first items
pub heads_and_then : (ts us : Forest) → heads_of (and_then ts us) ≡ heads_of ts ++ heads_of us
heads_and_then no_tree us = refl
heads_and_then (a_tree t ts) us = ap (λ (w : List Item). head_of t ∷ w) (heads_and_then ts us)

-- their tokens
pub tokens_and_then : (ts us : Forest) → tokens_of_all (and_then ts us) ≡ tokens_of_all ts ++ tokens_of_all us
tokens_and_then no_tree us = refl
tokens_and_then (a_tree t ts) us = ap (λ (w : List ℕ). tokens_of t ++ w) (tokens_and_then ts us)
    ∙ sym (append_assoc (tokens_of t) (tokens_of_all ts) (tokens_of_all us))

-- they all conform
pub fit_and_then : (rules : List StepRule) (word : List ℕ) (ts us : Forest) → AllConform rules word ts → AllConform rules word us
    → AllConform rules word (and_then ts us)
fit_and_then rules word no_tree us a b = b
fit_and_then rules word (a_tree t ts) us a b = (a.0, fit_and_then rules word ts us a.1 b)

-- two forests that have a tree each are not one tree
pub two_are_not_one : (t u : Tree) (ts us : Forest) (v : Tree) → and_then (a_tree t ts) (a_tree u us) ≡ only v → ⊥
two_are_not_one t u no_tree us v e = cc
two_are_not_one t u (a_tree x ts) us v e = cc

-- they are all placed
pub placed_and_then : (next : ℕ) (ts us : Forest) → ArePlaced next ts → ArePlaced (next + length (tokens_of_all ts)) us
    → ArePlaced next (and_then ts us)
placed_and_then next no_tree us a b = let same : next + 0 ≡ next = omega arith in subst (λ (n : ℕ). ArePlaced n us) same b
placed_and_then next (a_tree t ts) us a b =
    let same : next + length (tokens_of t ++ tokens_of_all ts) ≡ (next + length (tokens_of t)) + length (tokens_of_all ts) =
    omega (arith, length-append (tokens_of t) (tokens_of_all ts)) in
    (a.0, placed_and_then (next + length (tokens_of t)) ts us a.1 (subst (λ (n : ℕ). ArePlaced n us) same b))
