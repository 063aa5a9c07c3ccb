-- Lists whose newest item is last, newest first.
use Rattle.std.proofs.Common.{◌≡◌, ℕ, List, [], ◌∷◌, ◌++◌, reverse, length, Vec, Global, vec_len, refl, sym, ap, ◌∙◌, arith}
use Rattle.std.proofs.lemmas.List.{reverse-append, reverse-reverse}
use Rattle.g4_grammar.specs.StepRules.{StepRule}
use Rattle.g4_trees.specs.declared.tree.Item.{Item}
use Rattle.g4_tree_check.specs.declared.standing.OpenNode.{OpenNode}
use Rattle.g4_tree_check.specs.Standing.{Completes}
use Rattle.g4_tree_check.proofs.Growing.{still_open}

-- the last one comes first
pub newest_first : {X : Type 0} (xs : List X) (x : X) → reverse (xs ++ x ∷ []) ≡ x ∷ reverse xs
newest_first xs x = reverse-append xs (x ∷ [])

-- a list without an item
no_item : {X : Type 0} (xs : List X) → length xs ≡ 0 → xs ≡ []
no_item [] none = refl
no_item (x ∷ xs) none = absurd (let n : ⊥ = cc in n)

-- a vector without an item
pub empty_vec : {X : Type 0} (v : Vec X Global) → vec_len v ≡ 0 → v.items ≡ []
empty_vec v none = no_item v.items (omega (arith, v.ok))

-- and back
pub vec_of_none : {X : Type 0} (v : Vec X Global) → v.items ≡ [] → vec_len v ≡ 0
vec_of_none v none = omega (arith, v.ok, ap length none)

-- nothing completes a tree while a node is open and no item is left
pub open_not_complete : (rules : List StepRule) (word : List ℕ) (nodes : List OpenNode) (heads : List Item) (next : ℕ)
    → Completes rules word (reverse nodes) heads next [] → nodes ≡ []
open_not_complete rules word nodes heads next h = shown (reverse nodes) refl h
  where
    shown : (newest : List OpenNode) → reverse nodes ≡ newest → Completes rules word newest heads next [] → nodes ≡ []
    shown [] is c = sym (reverse-reverse nodes) ∙ ap reverse is
    shown (opened ∷ more) is c = absurd (still_open rules word opened more heads next c)
