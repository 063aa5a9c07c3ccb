-- What is derived by some rules is derived by others, where each of these derives what the rule of the same number does.
use Rattle.std.proofs.Common.{◌≡◌, ℕ, List, Some, slice_get}
use Rattle.g4_source.specs.Elements.{Element, Elements, Alternatives}
use Rattle.g4_grammar.specs.Derives.{Derives, an_atom, a_call, a_block, left_out, taken, no_turn, a_turn, turns, DerivesAll, nothing, one_more, DerivesOne, this, another}

module _ {A W : Type 0} (Reads : A → List W → Type 0) (Calls : A → ℕ → Type 0) (rules others : List (Alternatives A))
    (carried : (k : ℕ) (xs : Alternatives A) → slice_get rules k ≡ Some xs → (ys : Alternatives A) × (slice_get others k ≡ Some ys) ×
    ((w : List W) → DerivesOne Reads Calls others xs w → DerivesOne Reads Calls others ys w)) where
  mutual
    -- what an element derives
    element_on : {x : Element A} {w : List W} → Derives Reads Calls rules x w → Derives Reads Calls others x w
    element_on (an_atom a w r) = an_atom a w r
    element_on (a_call a k xs w c is d) = let found = carried k xs is in a_call a k found.0 w c found.1 (found.2 w (one_on d))
    element_on (a_block label xs w d) = a_block label xs w (one_on d)
    element_on (left_out label sign xs) = left_out label sign xs
    element_on (taken label sign xs w d) = taken label sign xs w (one_on d)
    element_on (no_turn label sign xs) = no_turn label sign xs
    element_on (a_turn label sign xs u v w d more is) = a_turn label sign xs u v w (one_on d) (element_on more) is
    element_on (turns label sign xs u v w d more is) = turns label sign xs u v w (one_on d) (element_on more) is

    -- elements one after another
    all_on : {xs : Elements A} {w : List W} → DerivesAll Reads Calls rules xs w → DerivesAll Reads Calls others xs w
    all_on nothing = nothing
    all_on (one_more x xs u v w d ds is) = one_more x xs u v w (element_on d) (all_on ds) is

    -- one of some alternatives
    pub one_on : {xs : Alternatives A} {w : List W} → DerivesOne Reads Calls rules xs w → DerivesOne Reads Calls others xs w
    one_on (this x xs w d) = this x xs w (all_on d)
    one_on (another x xs w d) = another x xs w (one_on d)
