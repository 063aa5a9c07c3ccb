-- Steps read children as they are tested to do.
use Rattle.std.proofs.Common.{◌≡◌, ◌↔◌, ℕ, List, [], ◌∷◌, Option, Some, None, Bool, false, IsTrue, Contains, refl, sym, ap, subst, eq-eqb, eqb-true}
use Rattle.std.specs.List.{slice_get}
use Rattle.g4_grammar.specs.declared.step.Step.{Step}
use Rattle.g4_grammar.specs.declared.step.Step.TheVariants.{Edge, Call, Predicate, Level, Action, Empty}
use Rattle.g4_trees.specs.declared.tree.Item.{Item}
use Rattle.g4_trees.specs.declared.tree.Item.TheVariants as items
use Rattle.g4_tree_check.specs.Children.{child_of, symbol_child, takes, is_quiet}
use Rattle.g4_tree_check.specs.TreesOf.{ReadsChildren}
use Rattle.g4_tree_check.proofs.Members.{has_member}

-- a step that reads nothing
pub quiet_child : (word : List ℕ) (step : Step (List ℕ)) → IsTrue (is_quiet step) ↔ ReadsChildren word step []
quiet_child word (Edge set) = (λ h. absurd (cc), λ h. let n : ⊥ = cc (h.1) in absurd n)
quiet_child word (Call rule level) = (λ h. absurd (cc), λ h. let n : ⊥ = cc (h.2) in absurd n)
quiet_child word (Predicate k) = (λ h. refl, λ h. refl)
quiet_child word (Level q) = (λ h. refl, λ h. refl)
quiet_child word Action = (λ h. refl, λ h. refl)
quiet_child word Empty = (λ h. refl, λ h. refl)

-- a step reads one child at most
pub one_child : (word : List ℕ) (step : Step (List ℕ)) (c : Item) (w : List Item) → ReadsChildren word step (c ∷ w) → w ≡ []
one_child word (Edge set) c w h = let e = h.1 in cc
one_child word (Call rule level) c w h = let e = h.2 in cc
one_child word (Predicate k) c w h = absurd (let n : ⊥ = cc in n)
one_child word (Level q) c w h = absurd (let n : ⊥ = cc in n)
one_child word Action c w h = absurd (let n : ⊥ = cc in n)
one_child word Empty c w h = absurd (let n : ⊥ = cc in n)

-- a token that is looked up, by its symbol
token_read : (word set : List ℕ) (at : ℕ) (found : Option ℕ) → slice_get word at ≡ found
    → IsTrue (takes (symbol_child found) (Edge set)) ↔ ReadsChildren word (Edge set) (items.Token at ∷ [])
token_read word set at None is = (
  λ h. absurd (cc),
  λ h. let e = h.1 in let f = h.2.1 in let n : ⊥ = cc in absurd n,
)
token_read word set at (Some a) is = (
  λ h. (at, refl, (a, is, (has_member set a).0 h)),
  λ h. let e = h.1 in let f = h.2.1 in let same : h.2.0 ≡ a = cc in (has_member set a).1 (subst (Contains set) same h.2.2),
)

-- no other step reads a token
token_not_called : (word : List ℕ) (rule level at : ℕ) (found : Option ℕ)
    → IsTrue (takes (symbol_child found) (Call rule level)) ↔ ReadsChildren word (Call rule level) (items.Token at ∷ [])
token_not_called word rule level at None = (λ h. absurd (cc), λ h. let e = h.2 in let n : ⊥ = cc in absurd n)
token_not_called word rule level at (Some a) = (λ h. absurd (cc), λ h. let e = h.2 in let n : ⊥ = cc in absurd n)

-- a step that reads nothing reads no child
quiet_not_taken : (c : Item) (b : Bool) → b ≡ false → IsTrue b ↔ (◌≡◌ {A = List Item} (c ∷ []) [])
quiet_not_taken c b is = (λ h. absurd (cc), λ h. let n : ⊥ = cc in absurd n)

-- nothing is taken for a token by such a step
untaken : (found : Option ℕ) → (takes (symbol_child found) Action ≡ false)
    × ((k : ℕ) → takes (symbol_child found) (Predicate k) ≡ false) × ((q : ℕ) → takes (symbol_child found) (Level q) ≡ false)
    × (takes (symbol_child found) Empty ≡ false)
untaken None = (refl, λ k. refl, λ q. refl, refl)
untaken (Some a) = (refl, λ k. refl, λ q. refl, refl)

-- a step that reads this child
pub taken_child : (word : List ℕ) (c : Item) (step : Step (List ℕ))
    → IsTrue (takes (child_of word c) step) ↔ ReadsChildren word step (c ∷ [])
taken_child word (items.Enter rule alt at) (Edge set) = (λ h. absurd (cc), λ h. let e = h.1 in let n : ⊥ = cc in absurd n)
taken_child word (items.Enter rule alt at) (Call called level) = (
  λ h. let same : called ≡ rule = eqb-true called rule h in (alt, at, ap (λ (r : ℕ). items.Enter r alt at ∷ []) (sym same)),
  λ h. let e = h.2 in let same : called ≡ rule = cc in eq-eqb called rule same,
)
taken_child word (items.Enter rule alt at) (Predicate k) = quiet_not_taken (items.Enter rule alt at) false refl
taken_child word (items.Enter rule alt at) (Level q) = quiet_not_taken (items.Enter rule alt at) false refl
taken_child word (items.Enter rule alt at) Action = quiet_not_taken (items.Enter rule alt at) false refl
taken_child word (items.Enter rule alt at) Empty = quiet_not_taken (items.Enter rule alt at) false refl
taken_child word (items.Token at) (Edge set) = token_read word set at (slice_get word at) refl
taken_child word (items.Token at) (Call called level) = token_not_called word called level at (slice_get word at)
taken_child word (items.Token at) (Predicate k) =
    quiet_not_taken (items.Token at) (takes (symbol_child (slice_get word at)) (Predicate k)) ((untaken (slice_get word at)).1 k)
taken_child word (items.Token at) (Level q) =
    quiet_not_taken (items.Token at) (takes (symbol_child (slice_get word at)) (Level q)) ((untaken (slice_get word at)).2 q)
taken_child word (items.Token at) Action = quiet_not_taken (items.Token at) (takes (symbol_child (slice_get word at)) Action)
    (untaken (slice_get word at)).0
taken_child word (items.Token at) Empty = quiet_not_taken (items.Token at) (takes (symbol_child (slice_get word at)) Empty)
    (untaken (slice_get word at)).3
taken_child word items.Exit (Edge set) = (λ h. absurd (cc), λ h. let e = h.1 in let n : ⊥ = cc in absurd n)
taken_child word items.Exit (Call called level) = (λ h. absurd (cc), λ h. let e = h.2 in let n : ⊥ = cc in absurd n)
taken_child word items.Exit (Predicate k) = quiet_not_taken items.Exit false refl
taken_child word items.Exit (Level q) = quiet_not_taken items.Exit false refl
taken_child word items.Exit Action = quiet_not_taken items.Exit false refl
taken_child word items.Exit Empty = quiet_not_taken items.Exit false refl
